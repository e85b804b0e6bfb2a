-- A partition in IDLE stays there, and nothing is accepted from it.
use Rattle.apex_ports.proofs.Common.{◌≡◌, ◌≢◌, ℕ, ◌==◌, Bool, true, false, ◌&&◌, if◌then◌else◌, [], ◌∷◌, ◌++◌, Option, Some, None, refl, sym, ap, ◌∙◌, arith, unwrap_or, nat_tests, Call, SendQueuing, WriteSampling, Moment, Reply, Configuration, IsConfiguration, port_of, Port, Entry, History, entry_of, mode_of, mode_set, mode_asked, is_idle, is_code_no_error, is_source, is_source_of, message_accepted, message_sent}
use Rattle.apex_ports.proofs.Common.{message_written, sample_at, sample_written, reply_to, reply_of, service_row, seen}
use Rattle.apex_types.specs.declared.direction.Direction.{Direction}
use Rattle.apex_types.specs.declared.direction.Direction.TheVariants.{Source, Destination}
use Rattle.apex_ports.specs.declared.rows.Row.TheVariants as row
use Rattle.apex_ports.specs.Idle.{StaysIdle, HasSource}
use Rattle.apex_ports.proofs.Appends.{mode_of-append}
use Rattle.apex_ports.proofs.Stays.{accepted_stays, sample_stays, none_or_none, and_false, and_true}

-- a source port has the direction Source
source_direction : (d : Direction) → is_source d ≡ true → d ≡ Source
source_direction Source is = refl
source_direction Destination is = absurd (cc)

-- the port of a source, as it is configured
source_port : (o : Option Port) (c : ℕ) → is_source_of c o ≡ true → (port : Port) × (o ≡ Some port) × (port.direction ≡ Source) × (port.channel ≡ c)
source_port None c is = absurd (cc)
source_port (Some port) c is =
    let both = and_true (is_source port.direction) (port.channel == c) is in
    let test = both.1 in
    (port, refl, source_direction port.direction both.0, grind (arith, nat_tests))

-- a channel has one source
other_partition : (config : Configuration) (p id q jd c : ℕ) → IsConfiguration config → is_source_of c (port_of config p id) ≡ true → q ≢ p → is_source_of c (port_of config q jd) ≡ false
other_partition config p id q jd c valid source apart = by_test (is_source_of c (port_of config q jd)) refl
  where
    by_test : (b : Bool) → is_source_of c (port_of config q jd) ≡ b → b ≡ false
    by_test false is = refl
    by_test true is =
        let mine = source_port (port_of config p id) c source in
        let other = source_port (port_of config q jd) c is in
        let same = valid.one_source p id mine.0 q jd other.0 mine.1 other.1 mine.2 other.2 (mine.3 ∙ sym other.3) in
        absurd (apart (sym same.0))

sends_nothing : (config : Configuration) (p id q c : ℕ) (call : Call) → IsConfiguration config → is_source_of c (port_of config p id) ≡ true → q ≢ p → message_sent config c q call ≡ None
sends_nothing config p id q c (SendQueuing jd message) valid source apart = λ i. if other_partition config p id q jd c valid source apart i then Some message else None
sends_nothing config p id q c _ valid source apart = refl

writes_nothing : (config : Configuration) (p id q c : ℕ) (call : Call) → IsConfiguration config → is_source_of c (port_of config p id) ≡ true → q ≢ p → message_written config c q call ≡ None
writes_nothing config p id q c (WriteSampling jd message) valid source apart = λ i. if other_partition config p id q jd c valid source apart i then Some message else None
writes_nothing config p id q c _ valid source apart = refl

-- a lawful entry after a history
pub idle_stays : (config : Configuration) (h : History) (q : ℕ) (at : Moment) (call : Call) (reply : Reply) → IsConfiguration config → reply ≡ reply_to config h q at call → StaysIdle config h (h ++ entry_of q at call reply ∷ [])
idle_stays config h q at call reply valid is = record {
  mode = λ p idle. ap is_idle (mode_of-append p h e ∙ ap (λ o. unwrap_or o (mode_of p h)) (sets_none p idle)) ∙ idle;
  accepted = λ p c idle source. accepted_stays config c h e (accepts_none p c idle source);
  sample = λ p c idle source. sample_stays config h e c (writes_none p c idle source);
}
  where
    e : Entry
    e = entry_of q at call reply

    refused : (p : ℕ) → is_idle (mode_of p h) ≡ true → q ≡ p → is_code_no_error reply ≡ false
    refused p idle here =
        let mine : is_idle (mode_of q h) ≡ true = ap (λ n. is_idle (mode_of n h)) here ∙ idle in
        ap is_code_no_error (is ∙ (λ i. reply_of config (seen config h q) q (if mine i then row.Idle else service_row config (seen config h q) q at call)))

    sets_none : (p : ℕ) → is_idle (mode_of p h) ≡ true → mode_set p e ≡ None
    sets_none p idle = by_test (q == p) refl
      where
        by_test : (b : Bool) → (q == p) ≡ b → mode_set p e ≡ None
        by_test true test = let here : q ≡ p = grind (arith, nat_tests) in λ i. if refused p idle here i && (q == p) then mode_asked call else None
        by_test false test = (λ i. if is_code_no_error reply && test i then mode_asked call else None) ∙ (λ i. if and_false (is_code_no_error reply) i then mode_asked call else None)

    accepts_none : (p c : ℕ) → is_idle (mode_of p h) ≡ true → HasSource config p c → message_accepted config c e ≡ None
    accepts_none p c idle source = by_test (q == p) refl
      where
        by_test : (b : Bool) → (q == p) ≡ b → message_accepted config c e ≡ None
        by_test true test = let here : q ≡ p = grind (arith, nat_tests) in λ i. if refused p idle here i then message_sent config c q call else None
        by_test false test = let apart : q ≢ p = grind (arith, nat_tests) in (λ i. if is_code_no_error reply then sends_nothing config p source.0 q c call valid source.1 apart i else None) ∙ none_or_none (is_code_no_error reply)

    writes_none : (p c : ℕ) → is_idle (mode_of p h) ≡ true → HasSource config p c → sample_written config c e ≡ None
    writes_none p c idle source = by_test (q == p) refl
      where
        by_test : (b : Bool) → (q == p) ≡ b → sample_written config c e ≡ None
        by_test true test = let here : q ≡ p = grind (arith, nat_tests) in λ i. if refused p idle here i then sample_at at (message_written config c q call) else None
        by_test false test = let apart : q ≢ p = grind (arith, nat_tests) in (λ i. if is_code_no_error reply then sample_at at (writes_nothing config p source.0 q c call valid source.1 apart i) else None) ∙ none_or_none (is_code_no_error reply)
