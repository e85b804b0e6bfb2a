-- Partitions in IDLE.
use Rattle.std.specs.Prelude.{ℕ, true, ◌≡◌, Some, take, slice_get}
use Rattle.apex_types.specs.declared.reply.Reply.TheVariants.{NotMade}
use Rattle.apex_module.specs.Configuration.{Configuration, port_of}
use Rattle.apex_ports.specs.declared.history.Entry.{Entry}
use Rattle.apex_ports.specs.History.{History}
use Rattle.apex_ports.specs.Modes.{mode_of, is_idle}
use Rattle.apex_ports.specs.Ports.{is_source_of}
use Rattle.apex_ports.specs.Channels.{accepted_on, last_write_on}

-- each call of a partition in IDLE is recorded as not made
abbrev pub IdleIsSilent : History → Type 0
IdleIsSilent history =
    (k : ℕ) (entry : Entry) → slice_get history k ≡ Some entry → is_idle (mode_of entry.partition (take k history)) ≡ true → entry.reply ≡ NotMade

-- the partition has the source port of the channel
abbrev pub HasSource : Configuration → ℕ → ℕ → Type 0
HasSource config p c = (id : ℕ) × (is_source_of c (port_of config p id) ≡ true)

-- a partition in IDLE stays in IDLE, and nothing was accepted from it
pub record StaysIdle (config : Configuration) (old new : History) : Type 0 where
  pub mode : (p : ℕ) → is_idle (mode_of p old) ≡ true → is_idle (mode_of p new) ≡ true
  pub accepted : (p c : ℕ) → is_idle (mode_of p old) ≡ true → HasSource config p c → accepted_on config c new ≡ accepted_on config c old
  pub sample : (p c : ℕ) → is_idle (mode_of p old) ≡ true → HasSource config p c → last_write_on config c new ≡ last_write_on config c old
