-- Each order of a part's calls can be merged, and completed.
use Rattle.apex_groups.proofs.Common.{◌≡◌, ⊎_elim, ℕ, zero, suc, ◌+◌, ◌<◌, ◌≤◌, Bool, true, false, List, [], ◌∷◌, ◌++◌, length, Option, Some, None, refl, sym, ap, ◌∙◌, subst, arith, append_assoc, append-nil, slice_index_or, filter, false≢true, cases_lt, slice_get_within, Configuration, IsConfiguration, History, entries_of, IsPart, Scripts, script_of, calls_of, history_of}
use Rattle.apex_groups.proofs.Common.{calls_count, replicate, IsFirst, IsFirstUntil, IsPast, AreNextPast, AreAdded, AreCounted, IsEndOfPart, IsMerged, IsWholeOf, next_of, moment_of, next_moment}
use Rattle.apex_types.specs.declared.call.Call.{Call}
use Rattle.apex_types.specs.declared.moment.Moment.{Moment}
use Rattle.apex_orders.specs.Clock.{IsClocked}
use Rattle.apex_orders.proofs.ChoiceLemmas.{has_script}
use Rattle.apex_orders.proofs.Completing.{good_history, way_of}
use Rattle.apex_orders.proofs.Lists.{none_past}
use Rattle.apex_groups.proofs.MergeSteps.{counted_more, counted_none, counted_past, fewer_left, first_none, first_pass, first_take, left_after, past_or_before}
use Rattle.apex_groups.proofs.Merges.{IsAdding, adding_end, adding_more, adding_none, merged_more, merged_none, merged_outside, merged_pass, next_first}
use Rattle.apex_groups.proofs.PartOrders.{next_alike}

module _ (inside : ℕ → Bool) (next : ℕ → Option ℕ) (limit : Option ℕ) where
  record HasFirst (n : ℕ) : Type 0 where
    first : Option ℕ
    last : Option ℕ
    is : IsFirstUntil inside next limit n first last

  first_of : (n : ℕ) → HasFirst n
  first_of zero = record { first = None; last = limit; is = first_none inside next limit }
  first_of (suc n) = more (first_of n)
    where
      one : n + 1 ≡ suc n
      one = omega arith

      more : HasFirst n → HasFirst (suc n)
      more was = of_test (inside n) (next n) refl refl
        where
          passed : ((at : ℕ) → inside n ≡ false → next n ≡ Some at → IsPast was.last at) → HasFirst (suc n)
          passed over = record {
            first = was.first;
            last = was.last;
            is = subst (λ (k : ℕ). IsFirstUntil inside next limit k was.first was.last) one (first_pass inside next limit n was.first was.last was.is over);
          }

          of_test : (b : Bool) (o : Option ℕ) → inside n ≡ b → next n ≡ o → HasFirst (suc n)
          of_test true o here there = passed (λ at out _. absurd (false≢true (sym out ∙ here)))
          of_test false None out none = passed (λ at _ there. absurd (let both : None ≡ Some at = sym none ∙ there in cc))
          of_test false (Some at) out there = ⊎_elim
              (λ (past : IsPast was.last at). passed (λ other _ here. let both : Some at ≡ Some other = sym there ∙ here in let same : at ≡ other = cc in subst (IsPast was.last) same past))
              (λ (before : IsPast was.last at → ⊥). record {
                first = Some n;
                last = Some at;
                is = subst (λ (k : ℕ). IsFirstUntil inside next limit k (Some n) (Some at)) one (first_take inside next limit n was.first was.last was.is at out there before);
              })
              (past_or_before was.last at)

module _ (config : Configuration) (scripts : Scripts) where
  -- the order with the partition's next call, counted
  pub record IsCountedMore (order made : List ℕ) (p : ℕ) : Type 0 where
    pub counts : List ℕ
    pub counted : AreCounted config scripts (order ++ p ∷ []) counts

  count_more : (order made : List ℕ) (p : ℕ) → p < length config.partitions → AreCounted config scripts order made → IsCountedMore order made p
  count_more order made p within counted = ⊎_elim
      (λ (more : slice_index_or made p 0 < length (script_of scripts p)). record { counts = _; counted = counted_more config scripts order made counted p within more })
      (λ (past : length (script_of scripts p) ≤ slice_index_or made p 0). record { counts = made; counted = counted_past config scripts order made counted p within past })
      (cases_lt (slice_index_or made p 0) (length (script_of scripts p)))

module _ (clock : Bool) (config : Configuration) (scripts : Scripts) (inside : ℕ → Bool) (count : length scripts ≡ length config.partitions) where
  -- ---- calls outside

  record Extends (limit : Option ℕ) (old : List ℕ) : Type 0 where
    new : List ℕ
    counts : List ℕ
    counted : AreCounted config scripts new counts
    added : AreAdded clock config scripts inside limit old new

  -- the order goes on with at most so many calls
  abbrev GoesOn : Option ℕ → List ℕ → ℕ → Type 0
  GoesOn limit old fuel =
      (now made : List ℕ) → left_after config scripts now ≤ fuel → AreCounted config scripts now made → IsAdding clock config scripts inside limit old now → Extends limit old

  module _ (limit : Option ℕ) (old now made : List ℕ) (counted : AreCounted config scripts now made) (adding : IsAdding clock config scripts inside limit old now) where
    abbrev IsNext : Option ℕ → Type 0
    IsNext first = IsFirst inside (next_moment clock scripts made) limit (length config.partitions) first

    record HasNext : Type 0 where
      first : Option ℕ
      is : IsNext first

    next_here : HasNext
    next_here =
        let has = first_of inside (next_moment clock scripts made) limit (length config.partitions) in
        record { first = has.first; is = record { last = has.last; is = has.is } }

    ended : IsNext None → Extends limit old
    ended first = record { new = now; counts = made; counted = counted; added = adding_end clock config scripts inside count limit old now made counted adding first }

    fewer : (p : ℕ) → IsNext (Some p) → left_after config scripts (now ++ p ∷ []) < left_after config scripts now
    fewer p first =
        let next = next_first clock config scripts inside count limit old now made counted adding p first in
        fewer_left config scripts now p next.0 next.1 first.is.within

    goes_on : (fuel : ℕ) → GoesOn limit old fuel → left_after config scripts now ≤ suc fuel → (first : Option ℕ) → IsNext first → Extends limit old
    goes_on fuel again few None first = ended first
    goes_on fuel again few (Some p) first =
        let less = fewer p first in
        let more = count_more config scripts now made p first.is.within counted in
        again (now ++ p ∷ []) more.counts (omega (arith, few, less)) more.counted (adding_more clock config scripts inside count limit old now made counted adding p first)

    stops : left_after config scripts now ≤ 0 → (first : Option ℕ) → IsNext first → Extends limit old
    stops few None first = ended first
    stops few (Some p) first = absurd (let less = fewer p first in omega (arith, few, less))

  extend_to : (limit : Option ℕ) (old : List ℕ) (fuel : ℕ) → GoesOn limit old fuel
  extend_to limit old zero now made few counted adding =
      let next = next_here limit old now made counted adding in
      stops limit old now made counted adding few next.first next.is
  extend_to limit old (suc fuel) now made few counted adding =
      let next = next_here limit old now made counted adding in
      goes_on limit old now made counted adding fuel (extend_to limit old fuel) few next.first next.is

  extend : (limit : Option ℕ) (old made : List ℕ) → AreCounted config scripts old made → Extends limit old
  extend limit old made counted = extend_to limit old (left_after config scripts old) old made (omega arith) counted (adding_none clock config scripts inside limit old)

  -- ---- all calls

  module _ (part : Scripts) (is : IsPart inside scripts part) where
    pub record HasMerged (order : List ℕ) : Type 0 where
      pub whole : List ℕ
      pub counts : List ℕ
      pub counted : AreCounted config scripts whole counts
      pub merged : IsMerged clock config scripts inside order whole

    -- the rest is merged behind these calls
    abbrev Goes : List ℕ → Type 0
    Goes rest =
        (done whole made : List ℕ) → AreCounted config scripts whole made → IsMerged clock config scripts inside done whole → IsClocked clock part (history_of config part (done ++ rest))
        → HasMerged (done ++ rest)

    merge_one : (p : ℕ) (rest : List ℕ) → Goes rest → Goes (p ∷ rest)
    merge_one p rest again done whole made counted merged clocked = subst HasMerged (append_assoc done (p ∷ []) rest) (by_test (inside p) refl)
      where
        still : IsClocked clock part (history_of config part ((done ++ p ∷ []) ++ rest))
        still = subst (λ (order : List ℕ). IsClocked clock part (history_of config part order)) (sym (append_assoc done (p ∷ []) rest)) clocked

        by_next : inside p ≡ true → (o : Option (Moment × Call)) → next_of scripts (history_of config scripts whole) p ≡ o → HasMerged ((done ++ p ∷ []) ++ rest)
        by_next here None none = again (done ++ p ∷ []) whole made counted (merged_pass clock config scripts inside done whole p merged part is here none) still
        by_next here (Some timed) at =
            let before = extend (Some (moment_of clock timed)) whole made counted in
            let has = has_script scripts p (length (entries_of p (history_of config scripts whole))) timed at in
            let more = count_more config scripts before.new before.counts p (omega (arith, has, count)) before.counted in
            again (done ++ p ∷ []) (before.new ++ p ∷ []) more.counts more.counted
            (merged_more clock config scripts inside done whole p merged part is here timed at rest clocked before.new before.added) still

        by_test : (b : Bool) → inside p ≡ b → HasMerged ((done ++ p ∷ []) ++ rest)
        by_test true here = by_next here (next_of scripts (history_of config scripts whole) p) refl
        by_test false out = again (done ++ p ∷ []) whole made counted (merged_outside clock config scripts inside done whole p merged out) still

    merge_on : (rest : List ℕ) → Goes rest
    merge_on [] done whole made counted merged clocked = record {
      whole = whole;
      counts = made;
      counted = counted;
      merged = subst (λ (order : List ℕ). IsMerged clock config scripts inside order whole) (sym (append-nil done)) merged;
    }
    merge_on (p ∷ rest) done whole made counted merged clocked = merge_one p rest (merge_on rest) done whole made counted merged clocked

    pub merge_all : (order : List ℕ) → IsClocked clock part (history_of config part order) → HasMerged order
    merge_all order clocked = merge_on order [] [] (replicate (length config.partitions) 0) (counted_none config scripts) (merged_none clock config scripts inside) clocked

  -- ---- ends

  pub whole_of_merged : IsConfiguration config → (order whole new made : List ℕ) → IsEndOfPart clock config inside scripts order → IsMerged clock config scripts inside order whole
      → AreAdded clock config scripts inside None whole new → AreCounted config scripts new made → IsWholeOf clock config scripts inside order new
  whole_of_merged valid order whole new made end merged added counted = record {
    same = same;
    is_way = way_of config scripts valid count h (good_history config scripts valid new counted.valid) (λ p within. full p (next_of scripts h p) refl);
    clocked = added.clocked (none_inside whole merged.same) merged.clocked;
  }
    where
      part : Scripts
      part = end.of_part.part

      h : History
      h = history_of config scripts new

      same : history_of config scripts (filter inside new) ≡ history_of config scripts (filter inside order)
      same = ap (history_of config scripts) added.same ∙ merged.same

      -- the part has no call left
      none_inside : (other : List ℕ) → history_of config scripts (filter inside other) ≡ history_of config scripts (filter inside order) → AreNextPast clock scripts (history_of config scripts other) inside true None
      none_inside other alike p timed here at =
          let g = history_of config part order in
          let left = slice_get_within (script_of part p) (length (entries_of p g)) timed (sym (next_alike config inside scripts part end.of_part.is other order alike p here) ∙ at) in
          let all = ap (λ (calls : List (Moment × Call)). length calls) (end.is_way.calls p) in
          let made = calls_count p g in
          absurd (omega (arith, left, all, made))

      full : (p : ℕ) (o : Option (Moment × Call)) → next_of scripts h p ≡ o → length (script_of scripts p) ≤ length (calls_of p h)
      full p None none = let past = none_past (script_of scripts p) (length (entries_of p h)) none in let made = calls_count p h in omega (arith, past, made)
      full p (Some timed) at = by_test (inside p) refl
        where
          by_test : (b : Bool) → inside p ≡ b → length (script_of scripts p) ≤ length (calls_of p h)
          by_test true here = absurd (none_inside new same p timed here at)
          by_test false out = absurd (added.past p timed out at)

  pub record HasWhole (order : List ℕ) : Type 0 where
    pub whole : List ℕ
    pub is : IsWholeOf clock config scripts inside order whole

  pub complete : IsConfiguration config → (order : List ℕ) → IsEndOfPart clock config inside scripts order → HasWhole order
  complete valid order end =
      let merged = merge_all end.of_part.part end.of_part.is order end.of_part.clocked in
      let all = extend None merged.whole merged.counts merged.counted in
      record { whole = all.new; is = whole_of_merged valid order merged.whole all.new all.counts end merged.merged all.added all.counted }
