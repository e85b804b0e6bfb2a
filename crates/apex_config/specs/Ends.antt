-- The ends of all channels, counted together.
use Rattle.std.specs.Prelude.{ℕ, ◌≡◌, ◌+◌, ◌-◌, ◌^◌, ◌<◌, List, length, min, count_by, slice_index, Option, option_map}
use Rattle.apex_config.specs.Prelude.{Direction}
use Rattle.apex_config.specs.Text.{PortText, PartitionText, ChannelText, ConfigText}
use Rattle.apex_config.specs.Passes.{is_end, end_count, index_of_channel, channel_of_port}

-- the ends of one direction in a text
pub record EndsData : Type 0 where
  pub direction : Direction
  pub config : ConfigText

-- the number of ports of a direction on each channel, or the largest number if there are more
abbrev pub CountEnds : Direction → List ChannelText → List PartitionText → List ℕ → Type 0
CountEnds direction channels partitions counts =
    (length counts ≡ length channels) × ((c : ℕ) → c < length channels → slice_index counts c ≡ min (end_count channels direction c partitions) (2 ^ 64 - 1))

-- the counts including these ports
abbrev pub CountMoreEnds : Direction → List ChannelText → List PortText → List ℕ → List ℕ → Type 0
CountMoreEnds direction channels ports before counts =
    (c : ℕ) → c < length before → slice_index counts c ≡ min (slice_index before c + count_by (is_end channels direction c) ports) (2 ^ 64 - 1)

-- the number of ends of a port's channel, or the largest number if there are more; none if there is no such channel
abbrev pub ends_at : Direction → ConfigText → PortText → Option ℕ
ends_at direction config port =
    option_map (λ _. min (end_count config.channels direction (index_of_channel config.channels port.channel) config.partitions) (2 ^ 64 - 1))
    (channel_of_port config.channels port)
