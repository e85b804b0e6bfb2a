-- Groups searched one after the other.
use Rattle.apex_groups.proofs.Common.{◌≡◌, ⊎_elim, ℕ, ◌+◌, ◌<◌, ◌≤◌, Bool, true, false, cond, List, [], ◌∷◌, ◌++◌, length, take, refl, sym, ap, ◌∙◌, subst, arith, append-nil, slice_get, filter, option_to_list, cases_lt, nat_tests, take_all, Configuration, History, entries_of, entries_of-append, Logs, log_in, entries_at, AreApart, IsPart, group_of, in_group, AreWhole, IsOfGroups}
use Rattle.apex_log_orders.specs.declared.answer.CallPlace.{CallPlace}
use Rattle.apex_log_orders.specs.LogOrders.{IsOrder, IsBeginning}
use Rattle.apex_log_orders.proofs.Beginnings.{begins_nil, entries_at-append}
use Rattle.apex_log_orders.proofs.Fronts.{order_begins}
use Rattle.apex_groups.proofs.Exchanged.{here_inside, no_list, none_outside}
use Rattle.apex_groups.proofs.Inside.{all_inside, joined_lawful, none_inside}

-- ---- histories

-- the places of the partitions inside give the entries that all places give in this part of the logs
pub entries_inside_at : (inside : ℕ → Bool) (logs part : Logs) → IsPart inside logs part → (places : List CallPlace)
    → entries_at logs (filter (λ (place : CallPlace). inside place.partition) places) ≡ entries_at part places
entries_inside_at inside logs part is [] = refl
entries_inside_at inside logs part is (place ∷ places) = by_test (inside place.partition) (is place.partition) (entries_inside_at inside logs part is places)
  where
    inner : List CallPlace
    inner = filter (λ (place : CallPlace). inside place.partition) places

    by_test : (b : Bool) → log_in part place.partition ≡ cond b (log_in logs place.partition) [] → entries_at logs inner ≡ entries_at part places
        → entries_at logs (cond b (place ∷ inner) inner) ≡ entries_at part (place ∷ places)
    by_test true log rest = λ i. option_to_list (slice_get (sym log i) place.index) ++ rest i
    by_test false log rest = rest ∙ sym (ap (λ (own : History). option_to_list (slice_get own place.index) ++ entries_at part places) log)

module _ (config : Configuration) (logs : Logs) (groups : List ℕ) where
  pub of_no_group : IsOfGroups config logs groups 0 []
  of_no_group = record { begins = begins_nil config logs; others = λ p any. refl }

  module _ (group : ℕ) (h : History) (joined : IsOfGroups config logs groups group h) where
    abbrev pub inside : ℕ → Bool
    inside = in_group groups group

    module _ (apart : AreApart config groups) (part : Logs) (is : IsPart inside logs part) (more : History) (begins : IsBeginning config part more) where
      none_here : (p : ℕ) → inside p ≡ true → entries_of p h ≡ []
      none_here p here = joined.others p (let same : group_of groups p ≡ group = grind (arith, nat_tests, here) in omega (arith, same))

      none_there : (p : ℕ) → inside p ≡ false → entries_of p more ≡ []
      none_there p out = begins.entries p ∙ (ap (take (length (entries_of p more))) (none_outside inside logs part is p out) ∙ take_all (length (entries_of p more)) [] (omega arith))

      mine : (p : ℕ) → inside p ≡ true → entries_of p (h ++ more) ≡ entries_of p more
      mine p here = entries_of-append p h more ∙ ap (λ (es : History). es ++ entries_of p more) (none_here p here)

      others : (p : ℕ) → inside p ≡ false → entries_of p (h ++ more) ≡ entries_of p h
      others p out = entries_of-append p h more ∙ (ap (λ (es : History). entries_of p h ++ es) (none_there p out) ∙ append-nil (entries_of p h))

      begins_each : (p : ℕ) (b : Bool) → inside p ≡ b → entries_of p (h ++ more) ≡ take (length (entries_of p (h ++ more))) (log_in logs p)
      begins_each p true here = subst (λ (es : History). es ≡ take (length es) (log_in logs p)) (sym (mine p here))
          (begins.entries p ∙ ap (take (length (entries_of p more))) (here_inside inside logs part is p here))
      begins_each p false out = subst (λ (es : History). es ≡ take (length es) (log_in logs p)) (sym (others p out)) (joined.begins.entries p)

      pub of_group : IsOfGroups config logs groups (group + 1) (h ++ more)
      of_group = record {
        begins = record {
          lawful = joined_lawful config inside (apart.closed group) h more joined.begins.lawful begins.lawful (none_inside inside h none_here) (all_inside inside more none_there);
          entries = λ p. begins_each p (inside p) refl;
        };
        others = λ p past.
            let out : inside p ≡ false = grind (arith, nat_tests, past) in
            others p out ∙ joined.others p (omega (arith, past));
      }

      pub whole_group : AreWhole config logs groups group h → IsOrder config part more → AreWhole config logs groups (group + 1) (h ++ more)
      whole_group whole order p within few = by_test (inside p) refl
        where
          by_test : (b : Bool) → inside p ≡ b → entries_of p (h ++ more) ≡ log_in logs p
          by_test true here = mine p here ∙ (order.entries p ∙ here_inside inside logs part is p here)
          by_test false out = others p out ∙ whole p within (grind (arith, nat_tests, few, out))

  -- if all groups are searched
  pub all_groups : AreApart config groups → length logs ≡ length config.partitions → (h : History) → IsOfGroups config logs groups (length config.partitions) h → AreWhole config logs groups (length config.partitions) h → IsOrder config logs h
  all_groups apart count h joined whole = record {
    lawful = joined.begins.lawful;
    entries = λ p. ⊎_elim
        (λ (within : p < length config.partitions). whole p within (apart.within p within))
        (λ (beyond : length config.partitions ≤ p).
        let none : log_in logs p ≡ [] = no_list logs p (omega (arith, count, beyond)) in
        joined.begins.entries p ∙ (ap (take (length (entries_of p h))) none ∙ (take_all (length (entries_of p h)) [] (omega arith) ∙ sym none)))
        (cases_lt p (length config.partitions));
  }

  -- with the places of a group's answer after the others
  pub places_more : (group : ℕ) (part : Logs) → IsPart (in_group groups group) logs part → (all places : List CallPlace)
      → entries_at logs (all ++ filter (λ (place : CallPlace). in_group groups group place.partition) places) ≡ entries_at logs all ++ entries_at part places
  places_more group part is all places =
      entries_at-append logs all (filter (λ (place : CallPlace). in_group groups group place.partition) places)
      ∙ ap (λ (es : History). entries_at logs all ++ es) (entries_inside_at (in_group groups group) logs part is places)

  -- a group's answer and the places of the groups before it
  module _ (apart : AreApart config groups) (group : ℕ) (all places new : List CallPlace) (part : Logs) (is : IsPart (in_group groups group) logs part)
      (added : new ≡ all ++ filter (λ (place : CallPlace). in_group groups group place.partition) places) (joined : IsOfGroups config logs groups group (entries_at logs all)) where
    entries_added : entries_at logs new ≡ entries_at logs all ++ entries_at part places
    entries_added = ap (entries_at logs) added ∙ places_more group part is all places

    pub of_added : IsBeginning config part (entries_at part places) → IsOfGroups config logs groups (group + 1) (entries_at logs new)
    of_added begins = subst (IsOfGroups config logs groups (group + 1)) (sym entries_added) (of_group group (entries_at logs all) joined apart part is (entries_at part places) begins)

    pub whole_added : AreWhole config logs groups group (entries_at logs all) → IsOrder config part (entries_at part places) → AreWhole config logs groups (group + 1) (entries_at logs new)
    whole_added whole order = subst (AreWhole config logs groups (group + 1)) (sym entries_added)
        (whole_group group (entries_at logs all) joined apart part is (entries_at part places) (order_begins config part (entries_at part places) order) whole order)
