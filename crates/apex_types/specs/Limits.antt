-- The limits of names and messages, as numbers.
use Rattle.std.proofs.Common.{◌≡◌, refl}
use Rattle.apex_types.specs.declared.name.TheConstants.{NAME_LIMIT}
use Rattle.apex_types.specs.declared.message.TheConstants.{MESSAGE_LIMIT}

-- maximum length of a name, in bytes
pub NAME_LIMIT-is : NAME_LIMIT ≡ 30
NAME_LIMIT-is = refl

-- maximum length of a message, in bytes
pub MESSAGE_LIMIT-is : MESSAGE_LIMIT ≡ 1024
MESSAGE_LIMIT-is = refl
