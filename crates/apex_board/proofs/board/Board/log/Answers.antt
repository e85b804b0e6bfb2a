use Rattle.apex_board.proofs.Common.{subst, sym, History, IsLawful, BoardView}
use Rattle.apex_ports.proofs.Interference.{always_free}
use Rattle.apex_board.proofs.board.Board.log.Goals as goal

pub returns-clause-lawful : goal.returns-clause-lawful
returns-clause-lawful g c =
    subst (λ (v : BoardView). IsLawful v.config v.log) c.self.view_is (subst (λ (h : History). IsLawful c.self.inside.ports.config h) (sym c.self.invariant.same) c.self.invariant.sound.lawful)

pub returns-clause-isolated : goal.returns-clause-isolated
returns-clause-isolated g c = always_free _ _ (returns-clause-lawful g c)
