use Rattle.std.proofs.Common.{subst}
use Rattle.apex_workers.specs.Facts.{HasBoardFacts}
use Rattle.apex_workers.proofs.locked.LockedBoard.lock.Goals as goal

pub returns : goal.returns
returns g c = subst HasBoardFacts c.deref.ensures c.board_facts.ensures
