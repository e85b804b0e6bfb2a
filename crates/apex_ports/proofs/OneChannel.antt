-- An entry concerns at most one channel.
use Rattle.apex_ports.proofs.Common.{◌≡◌, ◌≢◌, ◌⊎◌, inl, inr, ℕ, ◌==◌, Bool, true, false, ◌&&◌, not, if◌then◌else◌, List, [], ◌∷◌, ◌++◌, Option, Some, None, refl, ◌∙◌, arith, nat_tests, Call, SendQueuing, ReceiveQueuing, ClearQueuing, WriteSampling, Moment, Reply, Configuration, port_of, Port, History, entry_of, is_source, is_source_of, is_destination_of}
use Rattle.apex_ports.specs.OneChannel.{SameChannel, ChangesOneChannel}
use Rattle.apex_ports.proofs.Refused.{same_channel}
use Rattle.apex_ports.proofs.Stays.{IsElsewhere, leaves_channel, and_false}

-- the port isn't one of the channel's ends
pub record LiesElsewhere (c : ℕ) (port : Option Port) : Type 0 where
  pub source : is_source_of c port ≡ false
  pub destination : is_destination_of c port ≡ false

pub off_channel : (port : Port) (c : ℕ) → (port.channel == c) ≡ false → LiesElsewhere c (Some port)
off_channel port c off = record {
  source = (λ i. is_source port.direction && off i) ∙ and_false (is_source port.direction);
  destination = (λ i. not (is_source port.direction) && off i) ∙ and_false (not (is_source port.direction));
}

-- a port lies on one channel
pub port_elsewhere : (port : Option Port) (c d : ℕ) → c ≢ d → LiesElsewhere c port ⊎ LiesElsewhere d port
port_elsewhere None c d apart = inl (record { source = refl; destination = refl })
port_elsewhere (Some port) c d apart = by_test (port.channel == c) refl
  where
    by_test : (b : Bool) → (port.channel == c) ≡ b → LiesElsewhere c (Some port) ⊎ LiesElsewhere d (Some port)
    by_test false off = inl (off_channel port c off)
    by_test true on = let off : (port.channel == d) ≡ false = grind (arith, nat_tests) in inr (off_channel port d off)

pub sends_elsewhere : (config : Configuration) (c p id : ℕ) (message : List ℕ) → LiesElsewhere c (port_of config p id) → IsElsewhere config c p (SendQueuing id message)
sends_elsewhere config c p id message off = record { sends = λ i. if off.source i then Some message else None; receives = refl; clears = refl; writes = refl }

pub receives_elsewhere : (config : Configuration) (c p id : ℕ) → LiesElsewhere c (port_of config p id) → IsElsewhere config c p (ReceiveQueuing id)
receives_elsewhere config c p id off = record { sends = refl; receives = off.destination; clears = refl; writes = refl }

pub clears_elsewhere : (config : Configuration) (c p id : ℕ) → LiesElsewhere c (port_of config p id) → IsElsewhere config c p (ClearQueuing id)
clears_elsewhere config c p id off = record { sends = refl; receives = refl; clears = off.destination; writes = refl }

pub writes_elsewhere : (config : Configuration) (c p id : ℕ) (message : List ℕ) → LiesElsewhere c (port_of config p id) → IsElsewhere config c p (WriteSampling id message)
writes_elsewhere config c p id message off = record { sends = refl; receives = refl; clears = refl; writes = λ i. if off.source i then Some message else None }

either : {P Q R S : Type 0} → (P → R) → (Q → S) → P ⊎ Q → R ⊎ S
either f g (inl p) = inl (f p)
either f g (inr q) = inr (g q)

call_elsewhere : (config : Configuration) (c d p : ℕ) (call : Call) → c ≢ d → IsElsewhere config c p call ⊎ IsElsewhere config d p call
call_elsewhere config c d p (SendQueuing id message) apart =
    either (sends_elsewhere config c p id message) (sends_elsewhere config d p id message) (port_elsewhere (port_of config p id) c d apart)
call_elsewhere config c d p (ReceiveQueuing id) apart =
    either (receives_elsewhere config c p id) (receives_elsewhere config d p id) (port_elsewhere (port_of config p id) c d apart)
call_elsewhere config c d p (ClearQueuing id) apart =
    either (clears_elsewhere config c p id) (clears_elsewhere config d p id) (port_elsewhere (port_of config p id) c d apart)
call_elsewhere config c d p (WriteSampling id message) apart =
    either (writes_elsewhere config c p id message) (writes_elsewhere config d p id message) (port_elsewhere (port_of config p id) c d apart)
call_elsewhere config c d p _ apart = inl (record { sends = refl; receives = refl; clears = refl; writes = refl })

elsewhere_same : (config : Configuration) (h : History) (p : ℕ) (at : Moment) (call : Call) (reply : Reply) (c : ℕ) → IsElsewhere config c p call → SameChannel config h (h ++ entry_of p at call reply ∷ []) c
elsewhere_same config h p at call reply c off = same_channel config h (entry_of p at call reply) c (leaves_channel config c p at call reply off)

-- one more entry changes at most one channel
pub one_channel : (config : Configuration) (h : History) (p : ℕ) (at : Moment) (call : Call) (reply : Reply) → ChangesOneChannel config h (h ++ entry_of p at call reply ∷ [])
one_channel config h p at call reply c d apart =
    either (elsewhere_same config h p at call reply c) (elsewhere_same config h p at call reply d) (call_elsewhere config c d p call apart)

-- without another entry no channel changes
pub no_channel : (config : Configuration) (h : History) → ChangesOneChannel config h h
no_channel config h c d apart = inl (record { accepted = refl; taken = refl; waiting = refl; sample = refl })
