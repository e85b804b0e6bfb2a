-- Lists of replies.
use Rattle.std.specs.Prelude.{ℕ, ◌≡◌, List, slice_get, Some}

-- the list has the item
abbrev pub Has : {X : Type 0} → List X → X → Type 0
Has xs x = (k : ℕ) × (slice_get xs k ≡ Some x)
