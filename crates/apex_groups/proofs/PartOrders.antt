-- Orders of all scripts, and what they make of the part's scripts.
use Rattle.apex_groups.proofs.Common.{◌≡◌, ℕ, Bool, true, false, List, [], ◌∷◌, ◌++◌, length, Option, Some, sym, ap, ◌∙◌, subst, append_assoc, append-nil, false≢true, slice_get, filter, Configuration, Entry, History, entries_of, IsPart, Scripts, next_entries, continued, history_of, answered, entries_for, continued-append, AreNextPast, next_of, moment_of}
use Rattle.std.proofs.lemmas.List.{length-map}
use Rattle.apex_types.specs.declared.call.Call.{Call}
use Rattle.apex_types.specs.declared.moment.Moment.{Moment}
use Rattle.apex_orders.specs.Clock.{IsClocked, IsDue}
use Rattle.apex_orders.proofs.ClockLemmas.{due_here}
use Rattle.apex_groups.specs.Parts.{IsFed}
use Rattle.apex_groups.proofs.AlikeInside.{AreAlike, alike_nil, step_alike, told}
use Rattle.apex_groups.proofs.Exchanged.{here_inside}
use Rattle.apex_groups.proofs.MergeSteps.{moment_due}
use Rattle.apex_groups.proofs.WholeLemmas.{same_walk}

module _ (config : Configuration) (scripts : Scripts) where
  -- a walk only adds entries
  pub walked : (h : History) (order : List ℕ) → (more : History) × (continued config scripts h order ≡ h ++ more)
  walked h [] = ([], sym (append-nil h))
  walked h (p ∷ order) =
      let next = next_entries config scripts h p in
      let rest : (more : History) × (continued config scripts (h ++ next) order ≡ (h ++ next) ++ more) = walked (h ++ next) order in
      (next ++ rest.0, rest.1 ∙ append_assoc h next rest.0)

module _ (config : Configuration) (own inside : ℕ → Bool) (scripts part : Scripts) (is : IsPart inside scripts part)
    (fed : (c : ℕ) → own c ≡ true → IsFed config inside c) where
  pub order_alike : (order : List ℕ) (h g : History) → AreAlike config own inside scripts part is fed h g
      → AreAlike config own inside scripts part is fed (continued config scripts h order) (continued config part g order)
  order_alike [] h g alike = alike
  order_alike (p ∷ order) h g alike =
      order_alike order (h ++ next_entries config scripts h p) (g ++ next_entries config part g p) (step_alike config own inside scripts part is fed h g p alike)

  pub made_alike : (h g : History) → AreAlike config own inside scripts part is fed h g → (p : ℕ) → inside p ≡ true → length (entries_of p h) ≡ length (entries_of p g)
  made_alike h g alike p here =
      sym (length-map (entries_of p h) (told config own p)) ∙ (ap (λ ts. length ts) (alike.partitions p here).told ∙ length-map (entries_of p g) (told config own p))

module _ (config : Configuration) (inside : ℕ → Bool) (scripts part : Scripts) (is : IsPart inside scripts part) where
  -- ---- how many calls are made inside

  abbrev none_own : ℕ → Bool
  none_own c = false

  none_fed : (c : ℕ) → none_own c ≡ true → IsFed config inside c
  none_fed c mine = absurd (false≢true mine)

  as_many : (order : List ℕ) (p : ℕ) → inside p ≡ true → length (entries_of p (history_of config scripts order)) ≡ length (entries_of p (history_of config part order))
  as_many order =
      made_alike config none_own inside scripts part is none_fed (history_of config scripts order) (history_of config part order)
      (order_alike config none_own inside scripts part is none_fed order [] [] (alike_nil config none_own inside scripts part is none_fed))

  -- ---- orders with the same calls inside

  module _ (whole done : List ℕ) (same : history_of config scripts (filter inside whole) ≡ history_of config scripts (filter inside done)) where
    pub part_same : history_of config part whole ≡ history_of config part done
    part_same = sym (same_walk config inside scripts part is [] whole) ∙ (same ∙ same_walk config inside scripts part is [] done)

    pub next_alike : (p : ℕ) → inside p ≡ true → next_of scripts (history_of config scripts whole) p ≡ next_of part (history_of config part done) p
    next_alike p here =
        let made = as_many whole p here ∙ ap (λ (g : History). length (entries_of p g)) part_same in
        let script = here_inside inside scripts part is p here in
        λ i. slice_get (sym script i) (made i)

    -- the next call inside, if each of the part's is due: none inside comes before it
    pub past_inside : (clock : Bool) (p : ℕ) (rest : List ℕ) (timed : Moment × Call) → inside p ≡ true → next_of scripts (history_of config scripts whole) p ≡ Some timed
        → IsClocked clock part (history_of config part (done ++ p ∷ rest)) → AreNextPast clock scripts (history_of config scripts whole) inside true (Some (moment_of clock timed))
    past_inside clock p rest timed here at clocked q other here_too there =
        moment_due clock timed other (λ on. due on q other (sym (next_alike q here_too) ∙ there))
      where
        h : History
        h = history_of config part done

        e : Entry
        e = answered config part h p timed

        next : h ++ next_entries config part h p ≡ h ++ e ∷ []
        next = ap (λ (o : Option (Moment × Call)). h ++ entries_for config h p o) (sym (next_alike p here) ∙ at)

        more : (es : History) × (continued config part (h ++ e ∷ []) rest ≡ (h ++ e ∷ []) ++ es)
        more = walked config part (h ++ e ∷ []) rest

        goes_on : history_of config part (done ++ p ∷ rest) ≡ h ++ e ∷ more.0
        goes_on =
            continued-append config part [] done (p ∷ rest)
            ∙ (ap (λ (g : History). continued config part g rest) next ∙ (more.1 ∙ append_assoc h (e ∷ []) more.0))

        due : IsDue clock part h timed.0
        due = due_here clock part h e more.0 (subst (IsClocked clock part) goes_on clocked)
