use Rattle.apex_board.proofs.Common.{◌≡◌, ◌<◌, false, length, subst, sym, writes_on, History, is_queuing, BoardView}
use Rattle.apex_threads.proofs.PublishSteps.{sampling_entry, published_writes}
use Rattle.apex_board.proofs.board.Board.receipt.Goals as goal

pub receipt-requires : goal.receipt-requires
receipt-requires g c =
    let within = subst (λ (v : BoardView). c.args.c < length v.config.channels) (sym c.self.view_is) c.requires.channel in
    let sampling = subst (λ (v : BoardView). is_queuing v.config c.args.c ≡ false) (sym c.self.view_is) c.requires.sampling in
    let ports = c.self.inside.ports in
    sampling_entry ports.config ports.history c.self.inside.publishers c.args.c c.self.invariant.published within sampling

pub returns-clause-writes : goal.returns-clause-writes
returns-clause-writes g c =
    let ports = c.self.inside.ports in
    let is = published_writes ports.config ports.history c.self.inside.publishers c.args.c c.receipt.result c.self.invariant.published c.receipt.ensures in
    subst (λ (v : BoardView). c.receipt.result.writes ≡ writes_on v.config c.args.c v.log) c.self.view_is
    (subst (λ (h : History). c.receipt.result.writes ≡ writes_on ports.config c.args.c h) (sym c.self.invariant.same) is)
