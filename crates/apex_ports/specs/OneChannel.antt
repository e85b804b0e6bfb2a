-- A call changes at most one channel.
use Rattle.std.specs.Prelude.{ℕ, ◌≡◌, ◌≢◌, ◌⊎◌}
use Rattle.apex_module.specs.Configuration.{Configuration}
use Rattle.apex_ports.specs.History.{History}
use Rattle.apex_ports.specs.Channels.{accepted_on, taken_on, waiting_on, last_write_on}

-- the channel has the journals, the waiting messages and the last sample that it had
pub record SameChannel (config : Configuration) (old new : History) (c : ℕ) : Type 0 where
  pub accepted : accepted_on config c new ≡ accepted_on config c old
  pub taken : taken_on config c new ≡ taken_on config c old
  pub waiting : waiting_on config c new ≡ waiting_on config c old
  pub sample : last_write_on config c new ≡ last_write_on config c old

-- of any two channels, at least one is unchanged
abbrev pub ChangesOneChannel : Configuration → History → History → Type 0
ChangesOneChannel config old new = (c d : ℕ) → c ≢ d → SameChannel config old new c ⊎ SameChannel config old new d
