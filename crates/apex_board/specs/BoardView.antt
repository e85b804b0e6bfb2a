-- A board as plain data.
use Rattle.std.specs.Prelude.{ℕ}
use Rattle.apex_board.specs.Prelude.{Configuration, Channels, History}

-- the configuration, the log, what is published on each channel, the number of calls that can be served without
-- allocating, and the number of them that the log alone has room for
pub record BoardView : Type 0 where
  pub config : Configuration
  pub log : History
  pub published : Channels
  pub room : ℕ
  pub log_room : ℕ
