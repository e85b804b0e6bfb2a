-- Elements at their indexes, compared with tests and counts of the whole list.
use Rattle.apex_config.proofs.Common.{◌≡◌, ℕ, zero, suc, ◌≤◌, Bool, true, List, [], ◌∷◌, Some, refl, sym, ap, ◌∙◌, arith, slice_get, list_any, sum_by, or_left, or_right, same_Some}
use Rattle.std.proofs.lemmas.List.Sums.{sum_by-cons}

pub no_index : {X : Type 0} {A : Type 0} (i : ℕ) (x : X) → slice_get [] i ≡ Some x → A
no_index i x found = absurd cc

pub same_index : {X : Type 0} (xs : List X) (i : ℕ) (x y : X) → slice_get xs i ≡ Some x → slice_get xs i ≡ Some y → x ≡ y
same_index xs i x y here there = same_Some x y (sym here ∙ there)

pub any_at : {X : Type 0} (p : X → Bool) (xs : List X) (i : ℕ) (x : X) → slice_get xs i ≡ Some x → p x ≡ true → list_any p xs ≡ true
any_at p [] i x found holds = no_index i x found
any_at p (y ∷ ys) zero x found holds = or_left (p y) (list_any p ys) (ap p (same_Some y x found) ∙ holds)
any_at p (y ∷ ys) (suc i) x found holds = or_right (p y) (list_any p ys) (any_at p ys i x found holds)

-- ---- counts

pub part-le-sum_by : {X : Type 0} (f : X → ℕ) (xs : List X) (i : ℕ) (x : X) → slice_get xs i ≡ Some x → f x ≤ sum_by f xs
part-le-sum_by f [] i x found = no_index i x found
part-le-sum_by f (y ∷ ys) zero x found =
    let same : f y ≡ f x = ap f (same_Some y x found) in
    omega (arith, sum_by-cons f y ys, same)
part-le-sum_by f (y ∷ ys) (suc i) x found = omega (arith, sum_by-cons f y ys, part-le-sum_by f ys i x found)

-- a sum of at most one has one part that isn't 0
pub one_part : {X : Type 0} (f : X → ℕ) (xs : List X) (i j : ℕ) (x y : X) → sum_by f xs ≤ 1 → slice_get xs i ≡ Some x → slice_get xs j ≡ Some y → 1 ≤ f x → 1 ≤ f y → i ≡ j
one_part f [] i j x y few here there more other = no_index i x here
one_part f (z ∷ zs) zero zero x y few here there more other = refl
one_part f (z ∷ zs) zero (suc j) x y few here there more other =
    let same : f z ≡ f x = ap f (same_Some z x here) in
    absurd (omega (arith, sum_by-cons f z zs, part-le-sum_by f zs j y there, same))
one_part f (z ∷ zs) (suc i) zero x y few here there more other =
    let same : f z ≡ f y = ap f (same_Some z y there) in
    absurd (omega (arith, sum_by-cons f z zs, part-le-sum_by f zs i x here, same))
one_part f (z ∷ zs) (suc i) (suc j) x y few here there more other =
    ap suc (one_part f zs i j x y (omega (arith, sum_by-cons f z zs)) here there more other)

part_in : {X : Type 0} (f : X → ℕ) (y : X) (ys : List X) (n : ℕ) → f y ≡ n → 1 ≤ sum_by f (y ∷ ys)
    → (1 ≤ sum_by f ys → (i : ℕ) × (x : X) × (slice_get ys i ≡ Some x) × (1 ≤ f x)) → (i : ℕ) × (x : X) × (slice_get (y ∷ ys) i ≡ Some x) × (1 ≤ f x)
part_in f y ys zero is more later =
    let found = later (omega (arith, sum_by-cons f y ys, is)) in
    (suc found.0, found.1, found.2, found.3)
part_in f y ys (suc n) is more later = (0, y, refl, omega (arith, is))

-- a sum that isn't 0 has a part that isn't 0
pub some_part : {X : Type 0} (f : X → ℕ) (xs : List X) → 1 ≤ sum_by f xs → (i : ℕ) × (x : X) × (slice_get xs i ≡ Some x) × (1 ≤ f x)
some_part f [] more = absurd (omega arith)
some_part f (y ∷ ys) more = part_in f y ys (f y) refl more (some_part f ys)
