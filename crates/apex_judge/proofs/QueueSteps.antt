-- What a tally says about the messages that wait.
use Rattle.apex_judge.proofs.Common.{◌≡◌, ◌≤◌, ℕ, ◌+◌, Bool, cond, List, [], ◌∷◌, take, length, take_all, position, BTreeMap, Vec, Some, None, refl, ap, subst, ◌∙◌, ⊎_elim, arith, count_by, position_from, bytes_eq, cases_Bool, times, IsCounted}
use Rattle.std.proofs.lemmas.Iterator.Adapters.{position_from-zero}
use Rattle.std.proofs.lemmas.List.Sums.{sum_by-cons}

none_from : {X : Type 0} (test : X → Bool) (xs : List X) (i : ℕ) → count_by test xs ≤ 0 → position_from test i xs ≡ None
none_from test [] i none = refl
none_from test (x ∷ xs) i none =
    let more = sum_by-cons (λ y. cond (test y) 1 0) x xs in
    ⊎_elim
    (λ yes. let one : ◌≡◌ {A = ℕ} (cond (test x) 1 0) 1 = ap (λ (b : Bool). cond b 1 0) yes in absurd (omega (arith, more, one, none)))
    (λ no. (λ j. cond (no j) (Some i) (position_from test (i + 1) xs)) ∙ none_from test xs (i + 1) (omega (arith, more, none)))
    (cases_Bool (test x))

-- if all are counted, what isn't counted doesn't wait
pub not_there : {A : Type 0} (tally : BTreeMap (Vec ℕ A) ℕ) (counted : ℕ) (messages : List (List ℕ)) (bytes : List ℕ) → IsCounted tally counted messages → counted ≡ length messages → times tally bytes ≡ 0
    → position (λ one. bytes_eq one bytes) messages ≡ None
not_there tally counted messages bytes is all zero =
    let whole : take counted messages ≡ messages = take_all counted messages (omega (arith, all)) in
    let few = is.counts bytes in
    let none : count_by (λ one. bytes_eq one bytes) (take counted messages) ≤ 0 = omega (arith, few, zero) in
    position_from-zero (λ one. bytes_eq one bytes) messages ∙ none_from (λ one. bytes_eq one bytes) messages 0 (subst (λ xs. count_by (λ one. bytes_eq one bytes) xs ≤ 0) whole none)
