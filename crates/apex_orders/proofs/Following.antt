-- Histories that lead to one point continue alike.
use Rattle.apex_orders.proofs.Common.{◌≡◌, ⊎_elim, ℕ, ◌<◌, ◌≤◌, List, [], ◌∷◌, ◌++◌, length, filter, Option, Some, None, refl, sym, ap, ◌∙◌, subst, arith, length-append, append-nil, slice_get, option_to_list, length-take, Call, Moment, Reply, Taken, Configuration, Entry, accepted_on, received_on, cleared_on, taken_on, taken_by, waiting_on, message_accepted, message_received, count_of, History, entry_of, entries_of}
use Rattle.apex_orders.proofs.Common.{IsSound, accepted_on-append, received_on-append, taken_on-append, IsSameChannel, Scripts, script_of, AreShort, calls_of, entries_for, next_entries, IsSameCalls, HasSameCounts, IsSamePoint}
use Rattle.std.proofs.lemmas.List.Elements.{filter-append}
use Rattle.apex_orders.proofs.SeenAlike.{same_reply}
use Rattle.apex_orders.proofs.StateSteps.{state_step}
use Rattle.apex_orders.proofs.Walks.{IsGood, IsDone, IsNext, next_cases, answered, calls_count, entries_of-append, same_history, one_longer}

-- ---- being one point is reflexive, symmetric and transitive

pub same_self : (config : Configuration) (h : History) → IsSamePoint config h h
same_self config h = record {
  calls = λ p within. refl;
  counts = λ c within. record { accepted = refl; received = refl; cleared = refl };
  state = record {
    partitions = λ p within. record { mode = refl; ports = record { created = λ id known. refl; last = λ id known. refl } };
    channels = λ c within. record { sample = refl; waiting = refl };
  };
}

pub same_along : (config : Configuration) (f g h : History) → IsSamePoint config f g → IsSamePoint config g h → IsSamePoint config f h
same_along config f g h one two = record {
  calls = λ p within. one.calls p within ∙ two.calls p within;
  counts = λ c within. record {
    accepted = (one.counts c within).accepted ∙ (two.counts c within).accepted;
    received = (one.counts c within).received ∙ (two.counts c within).received;
    cleared = (one.counts c within).cleared ∙ (two.counts c within).cleared;
  };
  state = record {
    partitions = λ p within. record {
      mode = (one.state.partitions p within).mode ∙ (two.state.partitions p within).mode;
      ports = record {
        created = λ id known. (one.state.partitions p within).ports.created id known ∙ (two.state.partitions p within).ports.created id known;
        last = λ id known. (one.state.partitions p within).ports.last id known ∙ (two.state.partitions p within).ports.last id known;
      };
    };
    channels = λ c within. record {
      sample = (one.state.channels c within).sample ∙ (two.state.channels c within).sample;
      waiting = (one.state.channels c within).waiting ∙ (two.state.channels c within).waiting;
    };
  };
}

-- ---- one more entry

count_more : {X : Type 0} (xs ys zs : List X) → count_of xs ≡ count_of ys → count_of (xs ++ zs) ≡ count_of (ys ++ zs)
count_more xs ys zs same = omega (arith, length-append xs zs, length-append ys zs)

cleared_on-append : (config : Configuration) (c : ℕ) (h : History) (e : Entry)
    → cleared_on config c (h ++ e ∷ []) ≡ cleared_on config c h ++ filter (λ (one : Taken). one.cleared) (taken_by config c (waiting_on config c h) e)
cleared_on-append config c h e =
    ap (filter (λ (one : Taken). one.cleared)) (taken_on-append config c h e)
    ∙ filter-append (λ (one : Taken). one.cleared) (taken_on config c h) (taken_by config c (waiting_on config c h) e)

module _ (config : Configuration) (h other : History) (e : Entry) where
  counts_step : (c : ℕ) → HasSameCounts config h other c → IsSameChannel config h other c → HasSameCounts config (h ++ e ∷ []) (other ++ e ∷ []) c
  counts_step c same state = record {
    accepted =
        ap count_of (accepted_on-append config c h e)
        ∙ (count_more (accepted_on config c h) (accepted_on config c other) (option_to_list (message_accepted config c e)) same.accepted
        ∙ ap count_of (sym (accepted_on-append config c other e)));
    received =
        ap count_of (received_on-append config c h e)
        ∙ (count_more (received_on config c h) (received_on config c other) (option_to_list (message_received config c e)) same.received
        ∙ ap count_of (sym (received_on-append config c other e)));
    cleared =
        ap count_of (cleared_on-append config c h e)
        ∙ (ap (λ (waiting : List (List ℕ)). count_of (cleared_on config c h ++ filter (λ (one : Taken). one.cleared) (taken_by config c waiting e))) state.waiting
        ∙ (count_more (cleared_on config c h) (cleared_on config c other) (filter (λ (one : Taken). one.cleared) (taken_by config c (waiting_on config c other) e)) same.cleared
        ∙ ap count_of (sym (cleared_on-append config c other e))));
  }

  calls_step : IsSameCalls config h other → IsSameCalls config (h ++ e ∷ []) (other ++ e ∷ [])
  calls_step same p within =
      ap count_of (entries_of-append p h (e ∷ []))
      ∙ (count_more (entries_of p h) (entries_of p other) (entries_of p (e ∷ [])) (same p within) ∙ ap count_of (sym (entries_of-append p other (e ∷ []))))

  point_step : IsSound config h → IsSound config other → IsSamePoint config h other → IsSamePoint config (h ++ e ∷ []) (other ++ e ∷ [])
  point_step sound sound_too same = record {
    calls = calls_step same.calls;
    counts = λ c within. counts_step c (same.counts c within) (same.state.channels c within);
    state = state_step config h other e sound sound_too same.state;
  }

module _ (config : Configuration) (scripts : Scripts) (short : AreShort config scripts) where
  few_calls : (h : History) (p : ℕ) → IsGood config scripts h → length (entries_of p h) ≤ length (script_of scripts p)
  few_calls h p good =
      let count = calls_count p h in
      let begins = ap (λ (calls : List (Moment × Call)). length calls) (good.calls p) in
      let within = length-take (length (calls_of p h)) (script_of scripts p) in
      omega (arith, count, begins, within)

  module _ (h other : History) (p : ℕ) (within : p < length config.partitions) (good : IsGood config scripts h) (good_too : IsGood config scripts other) (same : IsSamePoint config h other) where
    pub same_count : length (entries_of p h) ≡ length (entries_of p other)
    same_count =
        let mine = few_calls h p good in
        let theirs = few_calls other p good_too in
        let limit = short p within in
        let count = same.calls p within in
        omega (arith, mine, theirs, limit, count)

    -- the next call is the same, and gets the same reply
    pub same_next : next_entries config scripts h p ≡ next_entries config scripts other p
    same_next =
        ap (λ (n : ℕ). entries_for config h p (slice_get (script_of scripts p) n)) same_count
        ∙ of_call (slice_get (script_of scripts p) (length (entries_of p other)))
      where
        of_call : (o : Option (Moment × Call)) → entries_for config h p o ≡ entries_for config other p o
        of_call None = refl
        of_call (Some timed) = ap (λ (r : Reply). entry_of p timed.0 timed.1 r ∷ []) (same_reply config p good.sound.valid h other same.state within timed.0 timed.1)

    pub point_next : IsSamePoint config (h ++ next_entries config scripts h p) (other ++ next_entries config scripts other p)
    point_next =
        ⊎_elim
        (λ (done : IsDone config scripts h p).
        let theirs : other ++ next_entries config scripts other p ≡ other = ap (λ (es : History). other ++ es) (sym same_next ∙ done.entry) ∙ append-nil other in
        subst (λ (both : History × History). IsSamePoint config both.0 both.1) (λ i. (sym (same_history config scripts h p done) i, sym theirs i)) same)
        (λ (next : IsNext config scripts h p).
        let e = answered config scripts h p next.timed in
        let theirs : other ++ next_entries config scripts other p ≡ other ++ e ∷ [] = ap (λ (es : History). other ++ es) (sym same_next ∙ next.entry) in
        subst (λ (both : History × History). IsSamePoint config both.0 both.1) (λ i. (sym (one_longer config scripts h p next) i, sym theirs i))
        (point_step config h other e good.sound good_too.sound same))
        (next_cases config scripts h p)
