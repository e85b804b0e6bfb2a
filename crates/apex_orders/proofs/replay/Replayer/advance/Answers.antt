use Rattle.apex_orders.proofs.Common.{◌++◌, ap, sym, ◌∙◌, append-nil, History}
use Rattle.apex_orders.proofs.StepLemmas.{without_script}
use Rattle.apex_orders.proofs.replay.Replayer.advance.Goals as goal

pub returns-else-p-scripts-clause-history : goal.returns-else-p-scripts-clause-history
returns-else-p-scripts-clause-history c =
    let ports = c.args.self.now in
    sym (ap (λ (es : History). ports.history ++ es) (without_script ports.config c.args.scripts.now ports.history c.args.p c.if-p-scripts.false) ∙ append-nil ports.history)
