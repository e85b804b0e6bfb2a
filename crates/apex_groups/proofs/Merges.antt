-- A merge of a part's calls with the calls outside, call by call.
use Rattle.apex_groups.proofs.Common.{◌≡◌, ◌≢◌, ⊎_elim, ℕ, zero, suc, ◌<◌, ◌≤◌, Bool, true, false, cond, List, [], ◌∷◌, ◌++◌, length, Option, Some, None, refl, sym, ap, ◌∙◌, subst, arith, append-nil, length-append, slice_get, filter, option_map, take, drop, slice_index_or, cases_lt, false≢true, Configuration, Entry, History, entries_of, IsPart, Scripts, script_of, next_entries, history_of}
use Rattle.apex_groups.proofs.Common.{answered, entries_for, IsFirst, IsBefore, IsPast, AreNextPast, AreAdded, AreCounted, EndsAlike, IsMerged, next_of, moment_of, next_moment}
use Rattle.std.proofs.lemmas.List.Elements.{filter-append}
use Rattle.apex_types.specs.declared.call.Call.{Call}
use Rattle.apex_types.specs.declared.moment.Moment.{Moment}
use Rattle.apex_orders.specs.Clock.{IsClocked, IsNextDue}
use Rattle.apex_orders.proofs.ChoiceLemmas.{has_script}
use Rattle.apex_orders.proofs.ClockLemmas.{clocked_next, clocked_none}
use Rattle.apex_orders.proofs.Lists.{at_seam}
use Rattle.apex_orders.proofs.SearchLemmas.{behind}
use Rattle.apex_groups.proofs.Exchanged.{no_list}
use Rattle.apex_groups.proofs.MergeSteps.{counted_next, due_of_first, due_of_past, next_none, next_same}
use Rattle.apex_groups.proofs.PartOrders.{next_alike, past_inside}

pub some_mapped : {X Y : Type 0} (f : X → Y) (o : Option X) (y : Y) → option_map f o ≡ Some y → (x : X) × (o ≡ Some x) × (f x ≡ y)
some_mapped f None y is = absurd (cc)
some_mapped f (Some x) y is = (x, refl, let same : f x ≡ y = cc in same)

none_mapped : {X Y : Type 0} (f : X → Y) (o : Option X) → option_map f o ≡ None → o ≡ None
none_mapped f None is = refl
none_mapped f (Some x) is = absurd (cc)

last_same : {X : Type 0} (xs ys : List X) (x y : X) → xs ++ x ∷ [] ≡ ys ++ y ∷ [] → x ≡ y
last_same {X} xs ys x y same =
    let count = ap (λ (zs : List X). length zs) same in
    let long : length xs ≡ length ys = omega (arith, count, length-append xs (x ∷ []), length-append ys (y ∷ [])) in
    let both : Some x ≡ Some y = sym (at_seam xs x []) ∙ ((λ i. slice_get (same i) (long i)) ∙ at_seam ys y []) in
    cc

-- a partition with a next call is one of the configuration
pub moment_within : (clock : Bool) (config : Configuration) (scripts : Scripts) → length scripts ≡ length config.partitions → (made : List ℕ) (p at : ℕ) → next_moment clock scripts made p ≡ Some at
    → p < length config.partitions
moment_within clock config scripts count made p at is =
    let found = some_mapped (moment_of clock) (slice_get (script_of scripts p) (slice_index_or made p 0)) at is in
    let has = has_script scripts p (slice_index_or made p 0) found.0 found.1 in
    omega (arith, has, count)

module _ (clock : Bool) (config : Configuration) (scripts : Scripts) (count : length scripts ≡ length config.partitions) (order made : List ℕ) (counted : AreCounted config scripts order made) (p : ℕ) where
  -- the next call, by the numbers of calls made
  pub moment_some : (at : ℕ) → next_moment clock scripts made p ≡ Some at → (timed : Moment × Call) × (next_of scripts (history_of config scripts order) p ≡ Some timed) × (moment_of clock timed ≡ at)
  moment_some at is =
      some_mapped (moment_of clock) (next_of scripts (history_of config scripts order) p) at
      (sym (counted_next config scripts order made counted clock p (moment_within clock config scripts count made p at is)) ∙ is)

  pub moment_none : next_moment clock scripts made p ≡ None → next_of scripts (history_of config scripts order) p ≡ None
  moment_none is = ⊎_elim
      (λ (within : p < length config.partitions). none_mapped (moment_of clock) (next_of scripts (history_of config scripts order) p) (sym (counted_next config scripts order made counted clock p within) ∙ is))
      (λ (beyond : length config.partitions ≤ p). ap (λ (script : List (Moment × Call)). slice_get script (length (entries_of p (history_of config scripts order)))) (no_list scripts p (omega (arith, beyond, count))))
      (cases_lt p (length config.partitions))

pub split_at : (items : List ℕ) (i : ℕ) → i < length items → take i items ++ slice_index_or items i 0 ∷ drop (suc i) items ≡ items
split_at [] i within = absurd (omega (arith, within))
split_at (x ∷ items) zero within = refl
split_at (x ∷ items) (suc i) within = ap (λ (xs : List ℕ). x ∷ xs) (split_at items i (omega (arith, within)))

-- ---- the partitions inside that an order names

filter_twice : (inside : ℕ → Bool) (order : List ℕ) → filter inside (filter inside order) ≡ filter inside order
filter_twice inside [] = refl
filter_twice inside (p ∷ order) = by_test (inside p) refl (filter_twice inside order)
  where
    by_test : (b : Bool) → inside p ≡ b → filter inside (filter inside order) ≡ filter inside order
        → filter inside (cond b (p ∷ filter inside order) (filter inside order)) ≡ cond b (p ∷ filter inside order) (filter inside order)
    by_test true here rest = ap (λ (b : Bool). cond b (p ∷ filter inside (filter inside order)) (filter inside (filter inside order))) here ∙ ap (λ (qs : List ℕ). p ∷ qs) rest
    by_test false out rest = rest

module _ (inside : ℕ → Bool) (order : List ℕ) (p : ℕ) where
  pub more_inside : inside p ≡ true → filter inside (order ++ p ∷ []) ≡ filter inside order ++ p ∷ []
  more_inside here = filter-append inside order (p ∷ []) ∙ ap (λ (b : Bool). filter inside order ++ cond b (p ∷ []) []) here

  pub more_outside : inside p ≡ false → filter inside (order ++ p ∷ []) ≡ filter inside order
  more_outside out = filter-append inside order (p ∷ []) ∙ (ap (λ (b : Bool). filter inside order ++ cond b (p ∷ []) []) out ∙ append-nil (filter inside order))

module _ (clock : Bool) (config : Configuration) (scripts : Scripts) (inside : ℕ → Bool) where
  abbrev walk : List ℕ → History
  walk order = history_of config scripts order

  -- ---- calls outside

  -- the order so far
  pub record IsAdding (limit : Option ℕ) (old now : List ℕ) : Type 0 where
    pub same : filter inside now ≡ filter inside old
    pub mine : AreNextPast clock scripts (walk old) inside true limit → AreNextPast clock scripts (walk now) inside true limit
    pub clocked : AreNextPast clock scripts (walk old) inside true limit → IsClocked clock scripts (walk old) → IsClocked clock scripts (walk now)

  pub adding_none : (limit : Option ℕ) (old : List ℕ) → IsAdding limit old old
  adding_none limit old = record { same = refl; mine = λ past. past; clocked = λ past clocked. clocked }

  module _ (count : length scripts ≡ length config.partitions) (limit : Option ℕ) (old now made : List ℕ) (counted : AreCounted config scripts now made) (adding : IsAdding limit old now) where
    abbrev n : ℕ
    n = length config.partitions

    abbrev next : ℕ → Option ℕ
    next = next_moment clock scripts made

    next_here : (q : ℕ) (other : Moment × Call) → next_of scripts (walk now) q ≡ Some other → (q < n) × (next q ≡ Some (moment_of clock other))
    next_here q other there =
        let has = has_script scripts q (length (entries_of q (walk now))) other there in
        let within : q < n = omega (arith, has, count) in
        (within, counted_next config scripts now made counted clock q within ∙ ap (option_map (moment_of clock)) there)

    pub adding_end : IsFirst inside next limit n None → AreAdded clock config scripts inside limit old now
    adding_end first = record {
      same = adding.same;
      clocked = adding.clocked;
      past = λ q other out there.
          let here = next_here q other there in
          subst (λ (o : Option ℕ). IsPast o (moment_of clock other)) first.is.found (first.is.past q (moment_of clock other) here.0 out here.1);
    }

    module _ (p : ℕ) (first : IsFirst inside next limit n (Some p)) where
      abbrev found : IsBefore inside next limit first.last p
      found = first.is.found

      pub next_first : (timed : Moment × Call) × (next_of scripts (walk now) p ≡ Some timed) × (moment_of clock timed ≡ found.at)
      next_first = some_mapped (moment_of clock) (next_of scripts (walk now) p) found.at (sym (counted_next config scripts now made counted clock p first.is.within) ∙ found.here)

      abbrev timed : Moment × Call
      timed = next_first.0

      theirs : AreNextPast clock scripts (walk now) inside false (Some (moment_of clock timed))
      theirs q other out there =
          let here = next_here q other there in
          let past : IsPast (Some found.at) (moment_of clock other) = subst (λ (o : Option ℕ). IsPast o (moment_of clock other)) found.is (first.is.past q (moment_of clock other) here.0 out here.1) in
          subst (λ (at : ℕ). at ≤ moment_of clock other) (sym next_first.2) past

      due : AreNextPast clock scripts (walk old) inside true limit → IsNextDue clock scripts (walk now) p
      due mine =
          due_of_first clock scripts inside (walk now) p timed next_first.1 limit
          (λ past. found.before (subst (IsPast limit) next_first.2 past)) (adding.mine mine) theirs

      pub adding_more : IsAdding limit old (now ++ p ∷ [])
      adding_more = record {
        same = more_outside inside now p found.outside ∙ adding.same;
        mine = λ past q other here there. adding.mine past q other here (
            let apart : p ≢ q = λ equal. absurd (false≢true (sym found.outside ∙ (ap inside equal ∙ here))) in
            let made = ap (λ (g : History). length (entries_of q g)) (behind config scripts now p) ∙ next_same config scripts (walk now) p q apart in
            ap (slice_get (script_of scripts q)) (sym made) ∙ there);
        clocked = λ past clocked. subst (IsClocked clock scripts) (sym (behind config scripts now p)) (clocked_next clock scripts config (walk now) p (adding.clocked past clocked) (due past));
      }

  -- ---- calls inside

  pub merged_none : IsMerged clock config scripts inside [] []
  merged_none = record {
    same = refl;
    clocked = clocked_none clock scripts;
    ends = λ before e is. absurd (let count = ap (λ (es : History). length es) is in omega (arith, count, length-append before (e ∷ [])));
  }

  -- the order's calls inside alone matter
  merged_as : (order other whole : List ℕ) → walk (filter inside order) ≡ walk (filter inside other) → IsMerged clock config scripts inside order whole → IsMerged clock config scripts inside other whole
  merged_as order other whole same merged = record {
    same = merged.same ∙ same;
    clocked = merged.clocked;
    ends = subst (EndsAlike (walk whole)) same merged.ends;
  }

  module _ (done whole : List ℕ) (p : ℕ) (merged : IsMerged clock config scripts inside done whole) where
    pub merged_outside : inside p ≡ false → IsMerged clock config scripts inside (done ++ p ∷ []) whole
    merged_outside out = merged_as done (done ++ p ∷ []) whole (ap walk (sym (more_outside inside done p out))) merged

    module _ (part : Scripts) (is : IsPart inside scripts part) (here : inside p ≡ true) where
      inside_walk : (order : List ℕ) → walk (filter inside (order ++ p ∷ [])) ≡ walk (filter inside order) ++ next_entries config scripts (walk (filter inside order)) p
      inside_walk order = ap walk (more_inside inside order p here) ∙ behind config scripts (filter inside order) p

      -- the partition's next call, after all calls and after those inside
      next_inside : next_of scripts (walk (filter inside done)) p ≡ next_of scripts (walk whole) p
      next_inside =
          let all = next_alike config inside scripts part is whole done merged.same p here in
          let alone = next_alike config inside scripts part is (filter inside done) done (ap walk (filter_twice inside done)) p here in
          alone ∙ sym all

      pub merged_pass : next_of scripts (walk whole) p ≡ None → IsMerged clock config scripts inside (done ++ p ∷ []) whole
      merged_pass none = merged_as done (done ++ p ∷ []) whole (sym (inside_walk done ∙ next_none config scripts (walk (filter inside done)) p (next_inside ∙ none))) merged

      module _ (timed : Moment × Call) (at : next_of scripts (walk whole) p ≡ Some timed) (rest : List ℕ) (clocked : IsClocked clock part (history_of config part (done ++ p ∷ rest)))
          (more : List ℕ) (added : AreAdded clock config scripts inside (Some (moment_of clock timed)) whole more) where
        same : walk (filter inside more) ≡ walk (filter inside done)
        same = ap walk added.same ∙ merged.same

        at_more : next_of scripts (walk more) p ≡ Some timed
        at_more = next_alike config inside scripts part is more done same p here ∙ (sym (next_alike config inside scripts part is whole done merged.same p here) ∙ at)

        at_inside : next_of scripts (walk (filter inside done)) p ≡ Some timed
        at_inside = next_inside ∙ at

        goes_on : walk (more ++ p ∷ []) ≡ walk more ++ answered config scripts (walk more) p timed ∷ []
        goes_on = behind config scripts more p ∙ ap (λ (o : Option (Moment × Call)). walk more ++ entries_for config (walk more) p o) at_more

        goes_on_inside : walk (filter inside (done ++ p ∷ [])) ≡ walk (filter inside done) ++ answered config scripts (walk (filter inside done)) p timed ∷ []
        goes_on_inside = inside_walk done ∙ ap (λ (o : Option (Moment × Call)). walk (filter inside done) ++ entries_for config (walk (filter inside done)) p o) at_inside

        pub merged_more : IsMerged clock config scripts inside (done ++ p ∷ []) (more ++ p ∷ [])
        merged_more = record {
          same = inside_walk more ∙ (ap (λ (g : History). g ++ next_entries config scripts g p) same ∙ sym (inside_walk done));
          clocked = subst (IsClocked clock scripts) (sym (behind config scripts more p)) (clocked_next clock scripts config (walk more) p
              (added.clocked (past_inside config inside scripts part is whole done merged.same clock p rest timed here at clocked) merged.clocked)
              (due_of_past clock scripts inside (walk more) p timed at_more (past_inside config inside scripts part is more done same clock p rest timed here at_more clocked) added.past));
          ends = λ before e ended. (
            walk more,
            answered config scripts (walk more) p timed,
            goes_on,
            ap (λ (x : Entry). x.partition) (last_same (walk (filter inside done)) before (answered config scripts (walk (filter inside done)) p timed) e (sym goes_on_inside ∙ ended)),
          );
        }
