-- What is found in one more entry of a list.
use Rattle.apex_config.proofs.Common.{◌≡◌, ℕ, suc, ◌+◌, ◌<◌, List, [], ◌∷◌, ◌++◌, length, take, get_or, refl, sym, ap, ◌∙◌, arith, append_assoc, append-nil, take_more, length-take-le, Place, Adds, at_each}

found_append : {X : Type 0} (find : ℕ → X → List Place) (n : ℕ) (xs : List X) (y : X) → at_each find n (xs ++ y ∷ []) ≡ at_each find n xs ++ find (n + length xs) y
found_append find n [] y = append-nil (find n y) ∙ ap (λ k. find k y) (grind arith)
found_append find n (x ∷ xs) y =
    ap (λ rest. find n x ++ rest) (found_append find (suc n) xs y ∙ ap (λ k. at_each find (suc n) xs ++ find k y) (grind arith))
    ∙ sym (append_assoc (find n x) (at_each find (suc n) xs) (find (n + length (x ∷ xs)) y))

-- what is found in the first entries and the next one
found_more : {X : Type 0} (find : ℕ → X → List Place) (xs : List X) (i : ℕ) (x : X) → i < length xs → x ≡ get_or xs i x
    → at_each find 0 (take (i + 1) xs) ≡ at_each find 0 (take i xs) ++ find i x
found_more find xs i x inside is =
    ap (at_each find 0) (take_more xs i x inside ∙ ap (λ last. take i xs ++ last ∷ []) (sym is))
    ∙ found_append find 0 (take i xs) x
    ∙ ap (λ k. at_each find 0 (take i xs) ++ find k x) (ap (λ (k : ℕ). 0 + k) (length-take-le i xs (omega (arith, inside))) ∙ grind arith)

-- these places, and then those
pub both : (these those : List Place) (before now next : List Place) → Adds these before now → Adds those now next → Adds (these ++ those) before next
both these those before now next first second =
    second
    ∙ ap (λ places. places ++ those) first
    ∙ append_assoc before these those

-- the places of one more entry, after those of the entries before it
pub one_more : {X : Type 0} (find : ℕ → X → List Place) (xs : List X) (i : ℕ) (x : X) (before now next : List Place) → i < length xs → x ≡ get_or xs i x
    → Adds (at_each find 0 (take i xs)) before now → Adds (find i x) now next → Adds (at_each find 0 (take (i + 1) xs)) before next
one_more find xs i x before now next inside is so_far step =
    both (at_each find 0 (take i xs)) (find i x) before now next so_far step
    ∙ ap (λ places. before ++ places) (sym (found_more find xs i x inside is))

-- another list with another test gives the same places
pub same_found : {X Y : Type 0} (f : ℕ → X → List Place) (g : ℕ → Y → List Place) (n : ℕ) (xs : List X) (ys : List Y) (x : X) → length xs ≡ length ys
    → ((i : ℕ) (y : Y) → i < length ys → f (n + i) (get_or xs i x) ≡ g (n + i) y) → at_each f n xs ≡ at_each g n ys
same_found f g n [] [] d many same = refl
same_found f g n [] (y ∷ ys) d many same = absurd (omega (arith, many))
same_found f g n (x ∷ xs) [] d many same = absurd (omega (arith, many))
same_found f g n (x ∷ xs) (y ∷ ys) d many same =
    let at : n + 0 ≡ n = omega arith in
    let first : f n x ≡ g n y = ap (λ (m : ℕ). f m x) (sym at) ∙ same 0 y (omega arith) ∙ ap (λ (m : ℕ). g m y) at in
    let later : (i : ℕ) (z : _) → i < length ys → f (suc n + i) (get_or xs i d) ≡ g (suc n + i) z =
    λ i z inside. ap (λ (m : ℕ). f m (get_or xs i d)) (omega arith) ∙ same (suc i) z (omega (arith, inside)) ∙ ap (λ (m : ℕ). g m z) (omega arith) in
    rw (first, same_found f g (suc n) xs ys d (omega (arith, many)) later) refl
