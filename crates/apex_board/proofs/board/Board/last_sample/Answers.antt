use Rattle.apex_board.proofs.Common.{◌≡◌, ◌<◌, true, length, sym, subst, ◌∙◌, arith, is_queuing, at_index, nothing_lent, BoardView}
use Rattle.apex_ports.proofs.Conserved.{always_conserved}
use Rattle.apex_board.proofs.board.Board.last_sample.Goals as goal

pub returns-clause-queuing : goal.returns-clause-queuing
returns-clause-queuing g c queuing =
    let here = subst (λ (v : BoardView). is_queuing v.config c.args.c ≡ true) (sym c.self.view_is) queuing in
    let channel = subst (λ (v : BoardView). c.args.c < length v.config.channels) (sym c.self.view_is) c.requires in
    let sampled = c.self.invariant.sampled in
    let within : c.args.c < length c.self.inside.samples.items = omega (arith, channel, sampled.all) in
    let held = sampled.each c.args.c c.index.result.now (at_index c.self.inside.samples.items c.args.c c.index.result.now within c.index.ensures) in
    let none = (always_conserved _ _ c.args.c c.self.invariant.sound).queuing here in
    nothing_lent c.as_ref.result (c.as_ref.ensures.value ∙ (held ∙ none))
