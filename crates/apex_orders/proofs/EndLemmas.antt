-- Ends, and more points than a bound.
use Rattle.apex_orders.proofs.Common.{◌≡◌, ◌⊎◌, inl, inr, ⊎_elim, ℕ, zero, suc, ◌+◌, ◌<◌, ◌≤◌, ◌==◌, Bool, true, false, cond, if◌then◌else◌, List, [], ◌∷◌, ◌++◌, length, map, Some, Err, refl, sym, ap, ◌∙◌, subst, arith, length-append, slice_get, length-map, Configuration, IsConfiguration, Entry, History, entries_of, IsClocked, Scripts, script_of, IsBeginning}
use Rattle.apex_orders.proofs.Common.{next_entries, continued, history_of, times, HasMorePointsWith, IsUndecidedWith, IsSamePoint, Has, HasMadeAll, NamesAll, AreEndsOf, HasMoreOrders, IsGivenUp}
use Rattle.apex_orders.proofs.Common.{Call, Moment, Option, get_or, cases_eq, nat_tests, slice_get-get_or, take, take_all, unwrap_or}
use Rattle.std.specs.List.{sum_by, count_by}
use Rattle.std.specs.Prelude.{nat_lt}
use Rattle.std.proofs.lemmas.List.Sums.{sum_by-cons, sum_by_more, count_by-le-length}
use Rattle.apex_orders.specs.declared.orders_fault.OrdersFault.{OrdersFault}
use Rattle.apex_orders.specs.declared.orders_fault.OrdersFault.TheVariants.{TooManyStates, OutOfMemory, Stopped}
use Rattle.apex_orders.proofs.Lists.{stays_before, before_or_last, at_seam, none_past}
use Rattle.apex_orders.proofs.Walks.{entries_of-append, calls_count, IsDone, IsNext, next_cases, answered, is_beginning}
use Rattle.apex_orders.proofs.Completing.{good_history}

module _ (config : Configuration) (scripts : Scripts) where
  -- ---- ends

  has_more : (orders : List (List ℕ)) (order other : List ℕ) → Has orders other → Has (orders ++ order ∷ []) other
  has_more orders order other has = (has.0, stays_before orders (order ∷ []) has.0 other has.1)

  has_last : (orders : List (List ℕ)) (order : List ℕ) → Has (orders ++ order ∷ []) order
  has_last orders order = (length orders, at_seam orders order [])

  was_or_is : (orders : List (List ℕ)) (order other : List ℕ) → Has (orders ++ order ∷ []) other → Has orders other ⊎ (order ≡ other)
  was_or_is orders order other has =
      ⊎_elim
      (λ (before : slice_get orders has.0 ≡ Some other). inl (has.0, before))
      (λ (last : (has.0 ≡ length orders) × (order ≡ other)). inr last.1)
      (before_or_last orders order has.0 other has.1)

  pub one_end : (orders ends : List (List ℕ)) (order : List ℕ) → AreEndsOf config scripts orders ends → HasMadeAll config scripts (history_of config scripts order)
      → AreEndsOf config scripts (orders ++ order ∷ []) (ends ++ order ∷ [])
  one_end orders ends order are made = record {
    each = λ other has.
        ⊎_elim
        (λ (before : Has ends other). let was = are.each other before in (has_more orders order other was.0, was.1))
        (λ (same : order ≡ other). subst (λ (o : List ℕ). Has (orders ++ order ∷ []) o × HasMadeAll config scripts (history_of config scripts o)) same (has_last orders order, made))
        (was_or_is ends order other has);
    every = λ other has all.
        ⊎_elim
        (λ (before : Has orders other). has_more ends order other (are.every other before all))
        (λ (same : order ≡ other). subst (Has (ends ++ order ∷ [])) same (has_last ends order))
        (was_or_is orders order other has);
  }

  pub no_end : (orders ends : List (List ℕ)) (order : List ℕ) → AreEndsOf config scripts orders ends → (HasMadeAll config scripts (history_of config scripts order) → ⊥)
      → AreEndsOf config scripts (orders ++ order ∷ []) ends
  no_end orders ends order are unfinished = record {
    each = λ other has. let was = are.each other has in (has_more orders order other was.0, was.1);
    every = λ other has all.
        ⊎_elim
        (λ (before : Has orders other). are.every other before all)
        (λ (same : order ≡ other). absurd (unfinished (subst (λ (o : List ℕ). HasMadeAll config scripts (history_of config scripts o)) (sym same) all)))
        (was_or_is orders order other has);
  }

  -- ---- the number of calls that an order names

  count_of_entry : (e : Entry) (p : ℕ) → length (entries_of p (e ∷ [])) ≡ cond (e.partition == p) 1 0
  count_of_entry e p = by_test (e.partition == p)
    where
      by_test : (b : Bool) → length (if b then e ∷ [] else []) ≡ cond b 1 0
      by_test true = refl
      by_test false = refl

  -- the partition's calls after one more call
  count_after : (h : History) (q p : ℕ) → length (entries_of p (h ++ next_entries config scripts h q)) ≡ length (entries_of p h) + length (entries_of p (next_entries config scripts h q))
  count_after h q p = ap (λ (es : History). length es) (entries_of-append p h (next_entries config scripts h q)) ∙ length-append (entries_of p h) (entries_of p (next_entries config scripts h q))

  count_done : (h : History) (q p : ℕ) → IsDone config scripts h q → length (entries_of p (next_entries config scripts h q)) ≡ 0
  count_done h q p done = ap (λ (es : History). length (entries_of p es)) done.entry

  count_next : (h : History) (q p : ℕ) → IsNext config scripts h q → length (entries_of p (next_entries config scripts h q)) ≡ cond (q == p) 1 0
  count_next h q p next = ap (λ (es : History). length (entries_of p es)) next.entry ∙ count_of_entry (answered config scripts h q next.timed) p

  times_next : (q p : ℕ) (order : List ℕ) → times p (q ∷ order) ≡ cond (q == p) 1 0 + times p order
  times_next q p order = sum_by-cons (λ (partition : ℕ). cond (partition == p) 1 0) q order

  -- no partition makes more calls than the order names
  made_few : (h : History) (order : List ℕ) (p : ℕ) → length (entries_of p (continued config scripts h order)) ≤ length (entries_of p h) + times p order
  made_few h [] p = omega arith
  made_few h (q ∷ order) p =
      let rest = made_few (h ++ next_entries config scripts h q) order p in
      let named = times_next q p order in
      let after = count_after h q p in
      ⊎_elim
      (λ (done : IsDone config scripts h q). let count = count_done h q p done in omega (arith, rest, named, after, count))
      (λ (next : IsNext config scripts h q). let count = count_next h q p next in omega (arith, rest, named, after, count))
      (next_cases config scripts h q)

  -- a partition makes all calls of its script, or as many as the order names
  made_enough : (h : History) (order : List ℕ) (p : ℕ) → (length (entries_of p h) + times p order ≤ length (entries_of p (continued config scripts h order)))
      ⊎ ((length (script_of scripts p) ≤ length (entries_of p (continued config scripts h order))) × (length (entries_of p h) ≤ length (entries_of p (continued config scripts h order))))
  made_enough h [] p = inl (omega arith)
  made_enough h (q ∷ order) p =
      let rest = made_enough (h ++ next_entries config scripts h q) order p in
      let named = times_next q p order in
      let after = count_after h q p in
      let all = continued config scripts h (q ∷ order) in
      ⊎_elim
      (λ (many : length (entries_of p (h ++ next_entries config scripts h q)) + times p order ≤ length (entries_of p all)).
      ⊎_elim
      (λ (done : IsDone config scripts h q).
      let count = count_done h q p done in
      ⊎_elim
      (λ (own : q ≡ p).
      let past = none_past (script_of scripts q) (length (entries_of q h)) done.call in
      let here = subst (λ (n : ℕ). length (script_of scripts n) ≤ length (entries_of n h)) own past in
      inr (omega (arith, here, many, after), omega (arith, many, after)))
      (λ (other : q ≡ p → ⊥). let apart : (q == p) ≡ false = grind (arith, nat_tests) in let none : cond (q == p) 1 0 ≡ 0 = ap {B = ℕ} (λ (b : Bool). cond b 1 0) apart in inl (omega (arith, many, named, after, count, none)))
      (cases_eq q p))
      (λ (next : IsNext config scripts h q). let count = count_next h q p next in inl (omega (arith, many, named, after, count)))
      (next_cases config scripts h q))
      (λ full. inr (full.0, omega (arith, full.1, after)))
      rest

  module _ (same : length scripts ≡ length config.partitions) (order : List ℕ) where
    -- an order that makes all calls names them all
    pub all_named : HasMadeAll config scripts (history_of config scripts order) → NamesAll scripts order
    all_named made p within =
        let few = made_few [] order p in
        let all = made p (omega (arith, within, same)) in
        let count = calls_count p (history_of config scripts order) in
        omega (arith, few, all, count)

    -- and the other way around
    pub all_made : NamesAll scripts order → HasMadeAll config scripts (history_of config scripts order)
    all_made named p within =
        let enough = made_enough [] order p in
        let all = named p (omega (arith, within, same)) in
        let count = calls_count p (history_of config scripts order) in
        ⊎_elim
        (λ (many : length (entries_of p []) + times p order ≤ length (entries_of p (history_of config scripts order))). omega (arith, many, all, count))
        (λ full. let own = full.0 in omega (arith, own, count))
        enough

  -- the number of calls that are of the first n partitions
  abbrev named_below : ℕ → List ℕ → ℕ
  named_below n order = count_by (λ partition. nat_lt partition n) order

  next_below : (n q : ℕ) → cond (nat_lt q (n + 1)) 1 0 ≡ cond (nat_lt q n) 1 0 + cond (q == n) 1 0
  next_below n q = grind (nat_tests, arith)

  named_next : (n : ℕ) (order : List ℕ) → named_below (n + 1) order ≡ named_below n order + times n order
  named_next n [] = refl
  named_next n (q ∷ order) =
      let rest = named_next n order in
      let all = sum_by-cons (λ (partition : ℕ). cond (nat_lt partition (n + 1)) 1 0) q order in
      let first = sum_by-cons (λ (partition : ℕ). cond (nat_lt partition n) 1 0) q order in
      let own = sum_by-cons (λ (partition : ℕ). cond (partition == n) 1 0) q order in
      omega (arith, rest, all, first, own, next_below n q)

  -- the number of calls of the first n scripts
  abbrev calls_below : ℕ → ℕ
  calls_below n = sum_by length (take n scripts)

  module _ (order : List ℕ) (names : NamesAll scripts order) where
    all_below : (n : ℕ) → n ≤ length scripts → calls_below n ≤ named_below n order
    all_below zero within = omega arith
    all_below (suc n) within =
        let inside : n < length scripts = omega (arith, within) in
        let script = get_or scripts n [] in
        let count : length (script_of scripts n) ≡ length script = ap (λ (o : Option (List (Moment × Call))). length (unwrap_or o [])) (slice_get-get_or scripts n [] inside) in
        let named = names n inside in
        let more = sum_by_more length scripts n [] inside in
        let before = all_below n (omega (arith, within)) in
        let index : n + 1 ≡ suc n = omega arith in
        subst (λ (m : ℕ). calls_below m ≤ named_below m order) index (omega (arith, count, named, more, before, named_next n order))

    -- an order that names all calls is as long as all scripts together
    pub long_enough : sum_by length scripts ≤ length order
    long_enough =
        let all = all_below (length scripts) (omega arith) in
        let whole = ap (λ (ss : Scripts). sum_by length ss) (take_all (length scripts) scripts (omega arith)) in
        omega (arith, all, whole, count_by-le-length (λ partition. nat_lt partition (length scripts)) order)

  -- ---- more points than a bound

  of_map : (orders : List (List ℕ)) (k : ℕ) (h : History) → slice_get (map (history_of config scripts) orders) k ≡ Some h
      → (order : List ℕ) × (slice_get orders k ≡ Some order) × (history_of config scripts order ≡ h)
  of_map [] k h at = absurd (cc)
  of_map (order ∷ orders) zero h at = let same : history_of config scripts order ≡ h = cc in (order, refl, same)
  of_map (order ∷ orders) (suc k) h at = of_map orders k h at

  pub more_points : (clock : Bool) → IsConfiguration config → (bound : ℕ) → HasMoreOrders clock config scripts bound → HasMorePointsWith clock config scripts bound
  more_points clock valid bound more = record {
    histories = map (history_of config scripts) more.orders;
    many = let count = length-map more.orders (history_of config scripts) in let many = more.many in omega (arith, count, many);
    beginnings = λ h has.
        let from = of_map more.orders has.0 h has.1 in
        subst (IsBeginning config scripts) from.2 (is_beginning config scripts (history_of config scripts from.0) (good_history config scripts valid from.0 (more.valid has.0 from.0 from.1)));
    clocked = λ h has.
        let from = of_map more.orders has.0 h has.1 in
        subst (IsClocked clock scripts) from.2 (more.clocked has.0 from.0 from.1);
    apart = λ j k h other below at at_too same.
        let one = of_map more.orders j h at in
        let two = of_map more.orders k other at_too in
        more.apart j k one.0 two.0 below one.1 two.1
        (subst (λ (both : History × History). IsSamePoint config both.0 both.1) (λ i. (sym two.2 i, sym one.2 i)) same);
  }

-- if a search is given up, the answer is undecided
pub undecided_of : (X : Type 0) (clock : Bool) (can_stop : Type 0) (config : Configuration) (scripts : Scripts) → IsConfiguration config → (bound : ℕ) (fault : OrdersFault)
    → IsGivenUp clock can_stop config scripts bound fault → IsUndecidedWith {X = X} clock can_stop config scripts bound (Err fault)
undecided_of X clock can_stop config scripts valid bound TooManyStates given_up = more_points config scripts clock valid bound given_up
undecided_of X clock can_stop config scripts valid bound OutOfMemory given_up = tt
undecided_of X clock can_stop config scripts valid bound Stopped given_up = given_up

-- no search is given up since memory ran out
pub not_of_memory : (clock : Bool) (can_stop : Type 0) (config : Configuration) (scripts : Scripts) (bound : ℕ) (fault : OrdersFault)
    → IsGivenUp clock can_stop config scripts bound fault → fault ≡ OutOfMemory → ⊥
not_of_memory clock can_stop config scripts bound fault given_up is = subst (IsGivenUp clock can_stop config scripts bound) is given_up
