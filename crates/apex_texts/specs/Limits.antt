-- The limits of texts, as numbers.
use Rattle.std.proofs.Common.{◌≡◌, refl}
use Rattle.apex_texts.specs.declared.arguments.TheConstants.{MOMENT_LIMIT, NUMBER_LIMIT}

-- the greatest moment and the longest refresh period, in nanoseconds
pub MOMENT_LIMIT-is : MOMENT_LIMIT ≡ 9223372036854775807
MOMENT_LIMIT-is = refl

-- the greatest value of every other number of a call
pub NUMBER_LIMIT-is : NUMBER_LIMIT ≡ 4294967295
NUMBER_LIMIT-is = refl
