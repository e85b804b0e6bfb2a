-- What holds for every board.
use Rattle.std.specs.Prelude.{ℕ}
use Rattle.apex_ports.specs.Idle.{IdleIsSilent}
use Rattle.apex_ports.specs.Interference.{IsFreeFromInterference}
use Rattle.apex_ports.specs.Lawful.{IsLawful}
use Rattle.apex_ports.specs.Rules.{IsConserved}
use Rattle.apex_board.specs.BoardView.{BoardView}
use Rattle.apex_threads.specs.OnChannels.{ArePublished}

-- the log is lawful, no channel loses, doubles or reorders a message, a partition in IDLE is silent, no partition
-- interferes with those that share no channel with it, and what the log writes to sampling channels is published there
pub record HasBoardFacts (board : BoardView) : Type 0 where
  pub lawful : IsLawful board.config board.log
  pub conserved : (c : ℕ) → IsConserved board.config board.log c
  pub idle : IdleIsSilent board.log
  pub isolated : IsFreeFromInterference board.config board.log
  pub published : ArePublished board.config board.log board.published
