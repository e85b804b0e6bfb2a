-- The limits of files, as numbers.
use Rattle.std.proofs.Common.{◌≡◌, refl}
use Rattle.apex_files.specs.declared.files.TheConstants.{FILE_LIMIT, READ_LIMIT}

-- the maximum number of bytes of a file
pub FILE_LIMIT-is : FILE_LIMIT ≡ 16777216
FILE_LIMIT-is = refl

-- the maximum number of reads of a file
pub READ_LIMIT-is : READ_LIMIT ≡ 16777217
READ_LIMIT-is = refl
