-- Orders of all scripts that make the calls inside alone.
use Rattle.apex_groups.proofs.Common.{◌≡◌, ℕ, Bool, true, false, cond, List, [], ◌∷◌, ◌++◌, length, refl, sym, ap, ◌∙◌, append-nil, slice_get, filter, Configuration, History, entries_of, IsPart, Scripts, entries_for, next_entries, continued}
use Rattle.apex_types.specs.declared.call.Call.{Call}
use Rattle.apex_types.specs.declared.moment.Moment.{Moment}
use Rattle.apex_groups.proofs.Exchanged.{here_inside, none_outside}

module _ (config : Configuration) (inside : ℕ → Bool) (scripts part : Scripts) (is : IsPart inside scripts part) where
  next_inside : (h : History) (p : ℕ) → inside p ≡ true → next_entries config scripts h p ≡ next_entries config part h p
  next_inside h p here = ap (λ (script : List (Moment × Call)). entries_for config h p (slice_get script (length (entries_of p h)))) (sym (here_inside inside scripts part is p here))

  next_outside : (h : History) (p : ℕ) → inside p ≡ false → next_entries config part h p ≡ []
  next_outside h p out = ap (λ (script : List (Moment × Call)). entries_for config h p (slice_get script (length (entries_of p h)))) (none_outside inside scripts part is p out)

  pub same_walk : (h : History) (order : List ℕ) → continued config scripts h (filter inside order) ≡ continued config part h order
  same_walk h [] = refl
  same_walk h (p ∷ order) = by_test (inside p) refl (λ g. same_walk g order)
    where
      by_test : (b : Bool) → inside p ≡ b → ((g : History) → continued config scripts g (filter inside order) ≡ continued config part g order)
          → continued config scripts h (cond b (p ∷ filter inside order) (filter inside order)) ≡ continued config part h (p ∷ order)
      by_test true here rest =
          ap (λ (es : History). continued config scripts (h ++ es) (filter inside order)) (next_inside h p here)
          ∙ rest (h ++ next_entries config part h p)
      by_test false out rest =
          rest h ∙ ap (λ (g : History). continued config part g order) (sym (ap (λ (es : History). h ++ es) (next_outside h p out) ∙ append-nil h))
