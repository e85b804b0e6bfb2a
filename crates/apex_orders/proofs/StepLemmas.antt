-- One call of a script, as a function's body reads it.
use Rattle.apex_orders.proofs.Common.{◌≡◌, ℕ, ◌-◌, ◌^◌, ◌<◌, ◌≤◌, List, [], ◌∷◌, length, Option, Some, sym, ap, ◌∙◌, arith, refl, slice_get, unwrap_or, slice_get_past, Call, Moment, Configuration, count_of, History, entries_of, Scripts, script_of, entries_for, next_entries}
use Rattle.apex_orders.proofs.Walks.{answered}

-- a partition that has no script calls nothing
pub without_script : (config : Configuration) (scripts : Scripts) (h : History) (p : ℕ) → length scripts ≤ p → next_entries config scripts h p ≡ []
without_script config scripts h p past = rw (slice_get_past scripts p past) refl

module _ (config : Configuration) (scripts : Scripts) (h : History) (p : ℕ) (script : List (Moment × Call)) (here : slice_get scripts p ≡ Some script) where
  call_at : (n : ℕ) → slice_get (script_of scripts p) n ≡ slice_get script n
  call_at n = ap (λ (o : Option (List (Moment × Call))). slice_get (unwrap_or o []) n) here

  pub makes_nothing : length script ≤ count_of (entries_of p h) → next_entries config scripts h p ≡ []
  makes_nothing made =
      ap (entries_for config h p) (call_at (length (entries_of p h)) ∙ slice_get_past script (length (entries_of p h)) (omega (arith, made)))

  pub whole_count : (index : ℕ) → index ≡ count_of (entries_of p h) → index < 2 ^ 64 - 1 → index ≡ length (entries_of p h)
  whole_count index is few = omega (arith, is, few)

  pub makes_next : (index : ℕ) (timed : Moment × Call) → index ≡ length (entries_of p h) → slice_get script index ≡ Some timed → next_entries config scripts h p ≡ answered config scripts h p timed ∷ []
  makes_next index timed is at =
      ap (entries_for config h p) (call_at (length (entries_of p h)) ∙ (ap (λ (n : ℕ). slice_get script n) (sym is) ∙ at))
