-- When two histories leave the same to save.
use Rattle.std.specs.Prelude.{ℕ, ◌≡◌, ◌<◌, length}
use Rattle.apex_module.specs.Configuration.{Configuration}
use Rattle.apex_ports.specs.Channels.{accepted_on, received_on, cleared_on, waiting_on, last_write_on, last_validity_of}
use Rattle.apex_ports.specs.Counts.{count_of}
use Rattle.apex_ports.specs.History.{History, entries_of}
use Rattle.apex_ports.specs.Modes.{mode_of}
use Rattle.apex_ports.specs.Ports.{is_created}

-- both histories left the partition in the same mode, with the same ports and after the same number of calls
pub record HasSamePartition (history other : History) (p : ℕ) : Type 0 where
  pub mode : mode_of p history ≡ mode_of p other
  pub created : (id : ℕ) → is_created p id history ≡ is_created p id other
  pub last : (id : ℕ) → last_validity_of p id history ≡ last_validity_of p id other
  pub calls : count_of (entries_of p history) ≡ count_of (entries_of p other)

-- both histories left the channel with the same messages, sample and counts
pub record HasSameChannel (config : Configuration) (history other : History) (c : ℕ) : Type 0 where
  pub waiting : waiting_on config c history ≡ waiting_on config c other
  pub sample : last_write_on config c history ≡ last_write_on config c other
  pub accepted : count_of (accepted_on config c history) ≡ count_of (accepted_on config c other)
  pub received : count_of (received_on config c history) ≡ count_of (received_on config c other)
  pub cleared : count_of (cleared_on config c history) ≡ count_of (cleared_on config c other)

-- this holds for each partition and each channel
pub record IsSameSaved (config : Configuration) (history other : History) : Type 0 where
  pub partitions : (p : ℕ) → p < length config.partitions → HasSamePartition history other p
  pub channels : (c : ℕ) → c < length config.channels → HasSameChannel config history other c
