-- What is published on the channels of a board.
use Rattle.std.specs.Prelude.{ℕ, ◌≡◌, true, false, [], ◌∷◌, ◌++◌, length, Option, None, Some}
use Rattle.apex_module.specs.Configuration.{Configuration}
use Rattle.apex_observers.specs.Channels.{Channels}
use Rattle.apex_observers.specs.Published.{Published}
use Rattle.apex_ports.specs.Channels.{writes_on}
use Rattle.apex_ports.specs.History.{History}
use Rattle.apex_ports.specs.Kept.{EachAt}
use Rattle.apex_ports.specs.Ports.{is_queuing}

-- the writes of the history are published on a sampling channel, and nothing on a queuing channel
abbrev pub IsPublished : Configuration → History → ℕ → Option Published → Type 0
IsPublished config history channel None = is_queuing config channel ≡ true
IsPublished config history channel (Some published) =
    (is_queuing config channel ≡ false) × (published.writes ≡ writes_on config channel history)

pub record ArePublished (config : Configuration) (history : History) (channels : Channels) : Type 0 where
  pub all : length channels ≡ length config.channels
  pub each : EachAt (IsPublished config history) channels

-- one more channel, on which nothing is published
abbrev pub AddsChannel : Configuration → ℕ → Channels → Channels → Type 0
AddsChannel config channel old new =
    (entry : Option Published) × IsPublished config [] channel entry × (new ≡ old ++ entry ∷ [])
