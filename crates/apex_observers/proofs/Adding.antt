-- The step that adds a write keeps the rule for the history.
use Rattle.std.proofs.Common.{◌≡◌, ℕ, ◌+◌, ◌<◌, ◌==◌, Bool, true, false, List, [], ◌∷◌, ◌++◌, length, refl, ap, sym, subst, arith, inl, length-append, None}
use Rattle.std.proofs.lemmas.List.{append-nil}
use Rattle.std.proofs.lemmas.Bool.Decides.{nat_tests}
use mathlib.Core.List.{IsPrefix}
use prog.Atomic.{either}
use Rattle.logbook.specs.Pages.{Cell, cell, keeps, no_nib, step, Moves, Goes}
use Rattle.apex_types.specs.declared.sample.Sample.{Sample}
use Rattle.apex_observers.specs.History.{IsCounted, Adds}
use Rattle.apex_observers.proofs.Prefixes.{prefix_whole}

abbrev pub shown : List Sample → List Sample
shown log = []

abbrev pub moved : List Sample → List Sample → ℕ → Type 0
moved before after n = Unit {0}

pub adds_goes : (log known : List Sample) (sample : Sample) (count more : ℕ) → length known ≡ count → more ≡ count + 1 → IsPrefix known log
    → (b : Bool) → (length log == count) ≡ b
    → Goes IsCounted shown moved 0 (known, (no_nib, None)) (λ n. either (n == count) more n) (Adds (step 0 count more sample) (known, (no_nib, None))) ((length log, true) ∷ (0, true) ∷ []) log
adds_goes log known sample count more len next pre true is =
    let here : length log ≡ count = grind (arith, nat_tests) in
    let same : known ≡ log = prefix_whole known log pre (omega arith) in
    let n : either (length log == count) more (length log) ≡ length (log ++ sample ∷ []) = rw is (omega (arith, length-append log (sample ∷ []))) in (
      keeps,
      sample ∷ [],
      None,
      tt,
      ap (λ (k : ℕ). (k, true) ∷ (0, true) ∷ []) n,
      inl (refl, refl),
      λ _. ap (λ w. w ++ sample ∷ []) (sym same),
    )
adds_goes log known sample count more len next pre false is =
    let all : log ++ [] ≡ log = append-nil log in
    let n : either (length log == count) more (length log) ≡ length (log ++ []) = rw is (ap length (sym all)) in (
      keeps,
      [],
      None,
      tt,
      ap (λ (k : ℕ). (k, true) ∷ (0, true) ∷ []) n,
      inl (refl, refl),
      λ found. absurd (cc (is, found)),
    )

-- whatever the history is, the exchange either appends the write to all that was known or finds another count
pub adds_moves : (known : List Sample) (sample : Sample) (count more : ℕ) → length known ≡ count → more ≡ count + 1
    → Moves IsCounted shown moved 0 (known, (no_nib, None)) (λ n. either (n == count) more n) (Adds (step 0 count more sample) (known, (no_nib, None)))
adds_moves known sample count more len next cs log kept pre away =
    let P : List Cell → Type 0 = λ c. (0 < length c) × ((cell c 0).1 ≡ true) × Goes IsCounted shown moved 0 (known, (no_nib, None)) (λ n. either (n == count) more n) (Adds (step 0 count more sample) (known, (no_nib, None))) c log in
    subst P (sym kept) (omega arith, refl, adds_goes log known sample count more len next pre (length log == count) refl)
