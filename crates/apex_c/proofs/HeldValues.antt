-- Values that are there.
use Rattle.std.proofs.Common.{◌≡◌, refl}
use Rattle.std.specs.Prelude.{◌≢◌, Option, Some, None}

-- what a value that isn't None has
pub value_in : {X : Type 0} (o : Option X) → o ≢ None → (x : X) × (o ≡ Some x)
value_in None there = absurd (there refl)
value_in (Some x) there = (x, refl)
