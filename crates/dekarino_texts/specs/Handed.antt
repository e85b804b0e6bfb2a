-- What a sink was handed, piece by piece.
use Rattle.std.specs.Prelude.{◌≡◌, List, [], ◌∷◌}

module _ {S X : Type 0} (takes : S → X → S → Type 0) where
  -- the sink took these pieces, in this order, and nothing else; a relation says how taking one changes it
  abbrev pub IsHanded : S → List X → S → Type 0
  IsHanded before [] after = before ≡ after
  IsHanded before (piece ∷ rest) after = (next : S) × takes before piece next × IsHanded next rest after
