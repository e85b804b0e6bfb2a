-- What calls at all items of a list leave.
use Rattle.std.specs.Prelude.{ℕ, List}
use denote.Ref.{MutBor}
use denote.Param.Members.{Shared}
use Rattle.std.specs.Fork.{ChangesEach}

-- each item is what a call of f left at its place
pub record AreChanged {F T : Type 0} (g : Shared F (ℕ × (MutBor T × Unit {0})) (Unit {0} × (MutBor T × Unit {0}))) (f : F) (before after : List T) : Type 0 where
  pub each : ChangesEach g f before after
