-- What a partition does to its ends of channels depends only on its own entries.
use Rattle.apex_log_orders.proofs.Common.{◌≡◌, ◌≢◌, ℕ, zero, suc, take, ◌==◌, ◌&&◌, ◌||◌, not, Bool, true, false, if◌then◌else◌, [], ◌∷◌, Option, Some, None, cond, refl, sym, ap, ◌∙◌, subst, arith, unwrap_or, slice_get, list_any, nat_tests, Call, SendQueuing, ReceiveQueuing, WriteSampling, Source, Destination, ColdStart, Configuration, IsConfiguration, port_of, is_queuing_port, Port, Entry, History, entries_of, mode_of}
use Rattle.apex_log_orders.proofs.Common.{mode_set, restarts, is_restart, is_code_no_error, is_created, creates, is_source_of, is_destination_of, last_validity_of, validity_read, accepted_on, received_on, writes_on, message_sent, message_accepted, message_in, message_received, message_written, sample_at, sample_written, is_receive, HasNoClear, asks_clear, LeavesPartition, none_or_none, or_not}
use Rattle.apex_types.specs.declared.direction.Direction.{Direction}
use Rattle.apex_types.specs.declared.validity.Validity.TheVariants.{Invalid}
use Rattle.apex_ports.proofs.Interference.{filter_map-inside, fold-inside}
use Rattle.apex_ports.proofs.PartitionSteps.{leaves_others}

module _ (p : ℕ) (h : History) where
  elsewhere : (e : Entry) → (e.partition == p) ≡ false → LeavesPartition p e
  elsewhere e outside = leaves_others e.partition e.at e.call e.reply p (λ same. absurd (grind (arith, nat_tests)))

  pub own_mode : mode_of p (entries_of p h) ≡ mode_of p h
  own_mode = fold-inside (λ mode entry. unwrap_or (mode_set p entry) mode) (λ q. q == p) h ColdStart (λ mode e outside. ap (λ o. unwrap_or o mode) (elsewhere e outside).mode)

  pub own_created : (id : ℕ) → is_created p id (entries_of p h) ≡ is_created p id h
  own_created id = fold-inside (λ created entry. creates p id entry || (created && not (restarts p entry))) (λ q. q == p) h false
      (λ created e outside. let left = elsewhere e outside in (λ i. left.created id i || (created && not (is_restart (left.mode i)))) ∙ or_not created)

  pub own_last : (id : ℕ) → last_validity_of p id (entries_of p h) ≡ last_validity_of p id h
  own_last id = fold-inside (λ last entry. if creates p id entry then Invalid else unwrap_or (validity_read p id entry) last) (λ q. q == p) h Invalid
      (λ last e outside. let left = elsewhere e outside in λ i. if left.created id i then Invalid else unwrap_or (left.read id i) last)

-- ---- the source's sends and writes, and the destination's receives

module _ (config : Configuration) (valid : IsConfiguration config) (p id : ℕ) (port : Port) (here : port_of config p id ≡ Some port) where
  source_alone : port.direction ≡ Source → (q jd : ℕ) → q ≢ p → (found : Option Port) → port_of config q jd ≡ found → is_source_of port.channel found ≡ false
  source_alone source q jd apart None is = refl
  source_alone source q jd apart (Some other) is = by_direction other.direction refl
    where
      by_channel : (b : Bool) → (other.channel == port.channel) ≡ b → other.direction ≡ Source → b ≡ false
      by_channel false test way = refl
      by_channel true test way = absurd (apart (valid.one_source q jd other p id port is here way source (grind (arith, nat_tests))).0)

      by_direction : (way : Direction) → other.direction ≡ way → is_source_of port.channel (Some other) ≡ false
      by_direction Destination way = cc
      by_direction Source way = let same = by_channel (other.channel == port.channel) refl way in cc

  destination_alone : port.direction ≡ Destination → is_queuing_port port.kind ≡ true → (q jd : ℕ) → q ≢ p → (found : Option Port) → port_of config q jd ≡ found → is_destination_of port.channel found ≡ false
  destination_alone destination kind q jd apart None is = refl
  destination_alone destination kind q jd apart (Some other) is = by_direction other.direction refl
    where
      by_channel : (b : Bool) → (other.channel == port.channel) ≡ b → other.direction ≡ Destination → b ≡ false
      by_channel false test way = refl
      by_channel true test way = absurd (apart (sym (valid.one_destination p id port q jd other here is destination way (grind (arith, nat_tests)) kind).0))

      by_direction : (way : Direction) → other.direction ≡ way → is_destination_of port.channel (Some other) ≡ false
      by_direction Source way = cc
      by_direction Destination way = let same = by_channel (other.channel == port.channel) refl way in cc

  not_sent : (q : ℕ) (call : Call) → ((jd : ℕ) → is_source_of port.channel (port_of config q jd) ≡ false) → message_sent config port.channel q call ≡ None
  not_sent q (SendQueuing jd m) off = λ i. if off jd i then Some m else None
  not_sent q _ off = refl

  not_written : (q : ℕ) (call : Call) → ((jd : ℕ) → is_source_of port.channel (port_of config q jd) ≡ false) → message_written config port.channel q call ≡ None
  not_written q (WriteSampling jd m) off = λ i. if off jd i then Some m else None
  not_written q _ off = refl

  not_received : (q : ℕ) (call : Call) → ((jd : ℕ) → is_destination_of port.channel (port_of config q jd) ≡ false) → is_receive config port.channel q call ≡ false
  not_received q (ReceiveQueuing jd) off = off jd
  not_received q _ off = refl

  pub own_accepted : port.direction ≡ Source → (h : History) → accepted_on config port.channel (entries_of p h) ≡ accepted_on config port.channel h
  own_accepted source h = filter_map-inside (message_accepted config port.channel) (λ q. q == p) h
      (λ e outside.
      let q = e.partition in
      let none = not_sent q e.call (λ jd. source_alone source q jd (λ same. absurd (grind (arith, nat_tests))) (port_of config q jd) refl) in
      (λ i. if is_code_no_error e.reply then none i else None) ∙ none_or_none (is_code_no_error e.reply))

  pub own_written : port.direction ≡ Source → (h : History) → writes_on config port.channel (entries_of p h) ≡ writes_on config port.channel h
  own_written source h = filter_map-inside (sample_written config port.channel) (λ q. q == p) h
      (λ e outside.
      let q = e.partition in
      let none = not_written q e.call (λ jd. source_alone source q jd (λ same. absurd (grind (arith, nat_tests))) (port_of config q jd) refl) in
      (λ i. if is_code_no_error e.reply then sample_at e.at (none i) else None) ∙ none_or_none (is_code_no_error e.reply))

  pub own_received : port.direction ≡ Destination → is_queuing_port port.kind ≡ true → (h : History) → received_on config port.channel (entries_of p h) ≡ received_on config port.channel h
  own_received destination kind h = filter_map-inside (message_received config port.channel) (λ q. q == p) h
      (λ e outside.
      let q = e.partition in
      let none = not_received q e.call (λ jd. destination_alone destination kind q jd (λ same. absurd (grind (arith, nat_tests))) (port_of config q jd) refl) in
      λ i. if none i then message_in e.reply else None)

-- ---- without clears

first_or_rest : (e : Entry) (h : History) → HasNoClear (e ∷ h) → (asks_clear e.call ≡ false) × HasNoClear h
first_or_rest e h none = both (asks_clear e.call) (list_any (λ (entry : Entry). asks_clear entry.call) h) none
  where
    both : (a b : Bool) → (a || b) ≡ false → (a ≡ false) × (b ≡ false)
    both true b is = absurd cc
    both false b is = (refl, is)

-- if no partition's entries have a clear, the history has none
pub no_clears : (h : History) → ((p : ℕ) → HasNoClear (entries_of p h)) → HasNoClear h
no_clears [] none = refl
no_clears (e ∷ h) none = λ i. mine i || no_clears h (λ p. others p) i
  where
    same : (e.partition == e.partition) ≡ true
    same = grind (arith, nat_tests)

    own : HasNoClear (e ∷ entries_of e.partition h)
    own = let is = none e.partition in subst (λ (b : Bool). HasNoClear (cond b (e ∷ entries_of e.partition h) (entries_of e.partition h))) same is

    mine : asks_clear e.call ≡ false
    mine = (first_or_rest e (entries_of e.partition h) own).0

    others : (p : ℕ) → HasNoClear (entries_of p h)
    others p = by_test (e.partition == p) (none p)
      where
        by_test : (b : Bool) → HasNoClear (cond b (e ∷ entries_of p h) (entries_of p h)) → HasNoClear (entries_of p h)
        by_test true is = (first_or_rest e (entries_of p h) is).1
        by_test false is = is

-- nor does a prefix of entries without a clear
pub no_clear_front : (n : ℕ) (h : History) → HasNoClear h → HasNoClear (take n h)
no_clear_front zero h none = refl
no_clear_front (suc n) [] none = refl
no_clear_front (suc n) (e ∷ h) none = let both = first_or_rest e h none in λ i. both.0 i || no_clear_front n h both.1 i

pub no_clear_more : (xs : History) (i : ℕ) (e : Entry) → slice_get xs i ≡ Some e → asks_clear e.call ≡ false → HasNoClear (take i xs) → HasNoClear (take (suc i) xs)
no_clear_more [] i e at clear none = absurd cc
no_clear_more (x ∷ xs) zero e at clear none = let same : x ≡ e = cc in ap (λ (b : Bool). b || false) (ap (λ (y : Entry). asks_clear y.call) same ∙ clear)
no_clear_more (x ∷ xs) (suc i) e at clear none = let both = first_or_rest x (take i xs) none in λ k. both.0 k || no_clear_more xs i e at clear both.1 k
