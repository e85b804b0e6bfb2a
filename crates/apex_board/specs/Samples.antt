-- The samples that sampling channels hold.
use Rattle.std.specs.Prelude.{◌≡◌, List, length, Option}
use Rattle.apex_board.specs.Prelude.{Sample, Configuration, last_write_on, History, EachAt}

-- each channel's sample is its last write in the history
pub record AreSamples (config : Configuration) (history : History) (samples : List (Option Sample)) : Type 0 where
  pub all : length samples ≡ length config.channels
  pub each : EachAt (λ c sample. sample ≡ last_write_on config c history) samples
