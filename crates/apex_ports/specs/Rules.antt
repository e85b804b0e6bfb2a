-- What the reply table keeps true of each channel, in every lawful history.
use Rattle.std.specs.Prelude.{ℕ, true, false, ◌≡◌, ◌≤◌, [], ◌++◌, length, None}
use Rattle.apex_module.specs.Configuration.{Configuration}
use Rattle.apex_ports.specs.History.{History}
use Rattle.apex_ports.specs.Ports.{is_queuing}
use Rattle.apex_ports.specs.Channels.{accepted_on, taken_on, messages_of, waiting_on, last_write_on}
use Rattle.apex_ports.specs.ReplyTable.{depth_of}
use Rattle.apex_ports.specs.Sound.{IsSound}

-- no message is lost, doubled or reordered, and at most the depth wait
pub record IsConserved (config : Configuration) (history : History) (c : ℕ) : Type 0 where
  pub messages : messages_of (taken_on config c history) ++ waiting_on config c history ≡ accepted_on config c history
  pub depth : length (waiting_on config c history) ≤ depth_of config c
  -- only services of a channel's own kind use it
  pub sampling : is_queuing config c ≡ false → accepted_on config c history ≡ []
  pub queuing : is_queuing config c ≡ true → last_write_on config c history ≡ None

-- whatever was called
abbrev pub AlwaysConserved : Type 0
AlwaysConserved = (config : Configuration) (history : History) (c : ℕ) → IsSound config history → IsConserved config history c
