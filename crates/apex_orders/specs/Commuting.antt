-- Calls of two partitions that may be swapped.
use Rattle.std.specs.Prelude.{ℕ, Bool, true, false, ◌≡◌, ◌≢◌, ◌==◌, ◌&&◌, List, ◌∷◌, ◌++◌, Option, Some, None}
use Rattle.apex_orders.specs.Prelude.{Call, Configuration, port_of, Port, Entry, History, entries_of, IsLawful}
use Rattle.apex_types.specs.declared.call.Call.TheVariants.{WriteSampling, ReadSampling, SendQueuing, ReceiveQueuing, QueuingStatus, ClearQueuing}
use Rattle.apex_orders.specs.Points.{IsSamePoint}

-- ---- the channel that a call concerns

-- the identifier by which a call reads or changes a channel; a creation, a look-up of an identifier,
-- GET_SAMPLING_PORT_STATUS and SET_PARTITION_MODE do neither
abbrev pub id_in : Call → Option ℕ
id_in (WriteSampling id message) = Some id
id_in (ReadSampling id) = Some id
id_in (SendQueuing id message) = Some id
id_in (ReceiveQueuing id) = Some id
id_in (QueuingStatus id) = Some id
id_in (ClearQueuing id) = Some id
id_in _ = None

abbrev pub port_in : Configuration → ℕ → Option ℕ → Option Port
port_in config p None = None
port_in config p (Some id) = port_of config p id

abbrev pub is_on : ℕ → Option Port → Bool
is_on c None = false
is_on c (Some port) = port.channel == c

-- the call names a port of the channel
abbrev pub names : Configuration → ℕ → ℕ → Call → Bool
names config c p call = is_on c (port_in config p (id_in call))

abbrev pub channel_in : Option Port → Option ℕ
channel_in None = None
channel_in (Some port) = Some port.channel

-- the channel of the port that the call names
abbrev pub channel_named : Configuration → ℕ → Call → Option ℕ
channel_named config p call = channel_in (port_in config p (id_in call))

-- the calls that can put a message into a channel or take one from it
abbrev pub is_change : Call → Bool
is_change (WriteSampling id message) = true
is_change (SendQueuing id message) = true
is_change (ReceiveQueuing id) = true
is_change (ClearQueuing id) = true
is_change _ = false

-- the call can change the channel
abbrev pub changes : Configuration → ℕ → ℕ → Call → Bool
changes config c p call = is_change call && names config c p call

-- ---- swapping

-- neither call can change a channel that the other names
pub record IsApart (config : Configuration) (p : ℕ) (call : Call) (q : ℕ) (other : Call) : Type 0 where
  pub others : (c : ℕ) → names config c p call ≡ true → changes config c q other ≡ false
  pub own : (c : ℕ) → names config c q other ≡ true → changes config c p call ≡ false

-- the entries may be swapped: each call keeps its reply, whatever comes after keeps its replies, and both orders lead
-- to one point
pub record Commutes (config : Configuration) (h : History) (e f : Entry) (rest : List Entry) : Type 0 where
  pub lawful : IsLawful config (h ++ f ∷ e ∷ rest)
  pub entries : (p : ℕ) → entries_of p (h ++ f ∷ e ∷ rest) ≡ entries_of p (h ++ e ∷ f ∷ rest)
  pub point : IsSamePoint config (h ++ e ∷ f ∷ rest) (h ++ f ∷ e ∷ rest)

-- calls of two partitions that are apart may be swapped wherever they are adjacent
abbrev pub AlwaysCommutes : Type 0
AlwaysCommutes = (config : Configuration) (h : History) (e f : Entry) (rest : List Entry)
    → e.partition ≢ f.partition → IsApart config e.partition e.call f.partition f.call
    → IsLawful config (h ++ e ∷ f ∷ rest) → Commutes config h e f rest
