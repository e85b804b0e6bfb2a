-- The number of calls that each partition made.
use Rattle.apex_log_orders.proofs.Common.{◌≡◌, ◌≢◌, ⊎_elim, ℕ, zero, suc, ◌<◌, List, [], ◌∷◌, ◌++◌, length, set, Some, refl, sym, ap, ◌∙◌, subst, arith, length-set, replicate, length-replicate, slice_get, cases_eq, Configuration, Entry, History, entries_of, Logs, IsBeginning, GoesOn, IsMade}
use Rattle.apex_log_orders.proofs.Beginnings.{made_mine, made_others}

pub set_here : {X : Type 0} (xs : List X) (i : ℕ) (y : X) → i < length xs → slice_get (set xs i y) i ≡ Some y
set_here [] i y within = absurd (omega (arith, within))
set_here (x ∷ xs) zero y within = refl
set_here (x ∷ xs) (suc i) y within = set_here xs i y (omega (arith, within))

pub set_elsewhere : {X : Type 0} (xs : List X) (i : ℕ) (y : X) (k : ℕ) → k ≢ i → slice_get (set xs i y) k ≡ slice_get xs k
set_elsewhere [] i y k apart = refl
set_elsewhere (x ∷ xs) zero y zero apart = absurd (apart refl)
set_elsewhere (x ∷ xs) zero y (suc k) apart = refl
set_elsewhere (x ∷ xs) (suc i) y zero apart = refl
set_elsewhere (x ∷ xs) (suc i) y (suc k) apart = set_elsewhere xs i y k (λ same. apart (ap suc same))

none_made : (n p : ℕ) → p < n → slice_get {X = ℕ} (replicate n 0) p ≡ Some 0
none_made zero p within = absurd (omega (arith, within))
none_made (suc n) zero within = refl
none_made (suc n) (suc p) within = none_made n p (omega (arith, within))

module _ (config : Configuration) where
  pub made_nil : IsMade config (replicate (length config.partitions) 0) []
  made_nil = record { count = length-replicate (length config.partitions) 0; each = λ p within. none_made (length config.partitions) p within }

  module _ (logs : Logs) (h : History) (p : ℕ) (e : Entry) (begins : IsBeginning config logs h) (goes : GoesOn config logs h p e) (within : p < length config.partitions) where
    pub made_push : (made : List ℕ) → IsMade config made h → IsMade config (set made p (suc (length (entries_of p h)))) (h ++ e ∷ [])
    made_push made is = record {
      count = length-set made p (suc (length (entries_of p h))) ∙ is.count;
      each = λ q inside. ⊎_elim
          (λ (own : p ≡ q).
          let here = set_here made p (suc (length (entries_of p h))) (let count = is.count in omega (arith, within, count)) in
          subst (λ (n : ℕ). slice_get (set made p (suc (length (entries_of p h)))) n ≡ Some (length (entries_of n (h ++ e ∷ [])))) own (here ∙ ap Some (sym (made_mine config logs h p e begins goes))))
          (λ (apart : p ≡ q → ⊥).
          set_elsewhere made p (suc (length (entries_of p h))) q (λ same. apart (sym same)) ∙ (is.each q inside ∙ ap Some (sym (made_others config logs h p e begins goes q apart))))
          (cases_eq p q);
    }

    pub made_back : (made : List ℕ) → IsMade config made (h ++ e ∷ []) → IsMade config (set made p (length (entries_of p h))) h
    made_back made is = record {
      count = length-set made p (length (entries_of p h)) ∙ is.count;
      each = λ q inside. ⊎_elim
          (λ (own : p ≡ q).
          let here = set_here made p (length (entries_of p h)) (let count = is.count in omega (arith, within, count)) in
          subst (λ (n : ℕ). slice_get (set made p (length (entries_of p h))) n ≡ Some (length (entries_of n h))) own here)
          (λ (apart : p ≡ q → ⊥).
          set_elsewhere made p (length (entries_of p h)) q (λ same. apart (sym same)) ∙ (is.each q inside ∙ ap Some (made_others config logs h p e begins goes q apart)))
          (cases_eq p q);
    }
