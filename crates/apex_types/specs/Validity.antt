-- The validity of a sampling message, VALIDITY_TYPE.
use Rattle.std.specs.Prelude.{ℕ, List, codes}
use Rattle.apex_types.specs.declared.validity.Validity.{Validity}
use Rattle.apex_types.specs.declared.validity.Validity.TheVariants.{Invalid, Valid}

-- the number of the standard's enumeration
abbrev pub number_of : Validity → ℕ
number_of Invalid = 0
number_of Valid = 1

-- the standard's word
abbrev pub word_of : Validity → List ℕ
word_of Invalid = codes "INVALID"
word_of Valid = codes "VALID"
