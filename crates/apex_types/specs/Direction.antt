-- The direction of a port, PORT_DIRECTION_TYPE.
use Rattle.std.specs.Prelude.{ℕ, List, codes}
use Rattle.apex_types.specs.declared.direction.Direction.{Direction}
use Rattle.apex_types.specs.declared.direction.Direction.TheVariants.{Source, Destination}

-- the number of the standard's enumeration
abbrev pub number_of : Direction → ℕ
number_of Source = 0
number_of Destination = 1

-- the standard's word
abbrev pub word_of : Direction → List ℕ
word_of Source = codes "SOURCE"
word_of Destination = codes "DESTINATION"
