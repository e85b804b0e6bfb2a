-- What is kept for each channel while going through the calls of a history.
use Rattle.std.specs.Prelude.{◌≡◌, ℕ, ◌≤◌, List, length, drop, Option, None, option_map}
use Rattle.dekarino_drawings.specs.Prelude.{Call, SendQueuing, ReceiveQueuing, ClearQueuing, WriteSampling, Configuration, port_of, History, taken_on, EachAt}
use Rattle.dekarino_drawings.specs.declared.channel_calls.ChannelCalls.{ChannelCalls}
use Rattle.dekarino_drawings.specs.Arrows.{sends_on, last_write}

-- the calls that put in the waiting messages, oldest first
abbrev pub waits_in : ChannelCalls → List ℕ
waits_in calls = drop calls.taken calls.sends.items

-- what is kept for a channel is what the history did to it
pub record IsFollowed (config : Configuration) (history : History) (c : ℕ) (calls : ChannelCalls) : Type 0 where
  pub sends : calls.sends.items ≡ sends_on config c history
  pub taken : calls.taken ≡ length (taken_on config c history)
  pub last_write : calls.last_write ≡ last_write config history c
  -- no more than a number can count
  pub few_sends : length calls.sends.items ≤ length history
  pub few_taken : calls.taken ≤ length history

-- this holds for each channel of the configuration
pub record AreFollowed (config : Configuration) (history : History) (channels : List ChannelCalls) : Type 0 where
  pub count : length channels ≡ length config.channels
  pub each : EachAt (IsFollowed config history) channels

-- the channel of the named port, for a call that puts in or takes out a message or writes a sample
abbrev pub channel_changed : Configuration → ℕ → Call → Option ℕ
channel_changed config partition (SendQueuing id message) = option_map (λ port. port.channel) (port_of config partition id)
channel_changed config partition (ReceiveQueuing id) = option_map (λ port. port.channel) (port_of config partition id)
channel_changed config partition (ClearQueuing id) = option_map (λ port. port.channel) (port_of config partition id)
channel_changed config partition (WriteSampling id message) = option_map (λ port. port.channel) (port_of config partition id)
channel_changed config partition _ = None
