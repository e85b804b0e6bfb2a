-- The limits of a configuration, as numbers.
use Rattle.std.proofs.Common.{◌≡◌, refl}
use Rattle.apex_module.specs.declared.limits.TheConstants.{PARTITION_LIMIT, PORT_LIMIT, CHANNEL_LIMIT, SIZE_LIMIT, DEPTH_LIMIT, REFRESH_LIMIT}

pub PARTITION_LIMIT-is : PARTITION_LIMIT ≡ 32
PARTITION_LIMIT-is = refl

-- the maximum number of ports of one partition
pub PORT_LIMIT-is : PORT_LIMIT ≡ 32
PORT_LIMIT-is = refl

pub CHANNEL_LIMIT-is : CHANNEL_LIMIT ≡ 64
CHANNEL_LIMIT-is = refl

-- the maximum size of a channel's messages, in bytes
pub SIZE_LIMIT-is : SIZE_LIMIT ≡ 1024
SIZE_LIMIT-is = refl

-- the maximum number of messages in a queue
pub DEPTH_LIMIT-is : DEPTH_LIMIT ≡ 512
DEPTH_LIMIT-is = refl

-- the longest refresh period, in nanoseconds
pub REFRESH_LIMIT-is : REFRESH_LIMIT ≡ 9223372036854775807
REFRESH_LIMIT-is = refl
