-- What an entry of a text has if no pass finds a place in it.
use Rattle.std.specs.Prelude.{Bool, ◌&&◌}
use Rattle.apex_config.specs.Prelude.{list_all, SIZE_LIMIT, DEPTH_LIMIT}
use Rattle.apex_config.specs.Text.{PartitionText, ChannelText}
use Rattle.apex_config.specs.Passes.{is_name, is_from_one_to, is_from_one_to_if_any}

-- a partition and its ports have names
abbrev pub has_names : PartitionText → Bool
has_names partition = is_name partition.name && list_all (λ port. is_name port.name) partition.ports

-- a channel has a name, and numbers within their limits
abbrev pub is_acceptable : ChannelText → Bool
is_acceptable channel = is_name channel.name && (is_from_one_to SIZE_LIMIT channel.size && is_from_one_to_if_any DEPTH_LIMIT channel.depth)
