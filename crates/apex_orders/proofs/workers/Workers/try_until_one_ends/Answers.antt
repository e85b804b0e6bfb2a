use Rattle.apex_orders.proofs.Common.{sym, ◌∙◌}
use Rattle.apex_orders.proofs.workers.Workers.try_until_one_ends.Goals as goal

pub returns-clause-workers : goal.returns-clause-workers
returns-clause-workers g c =
    let was = c.in_ok-run.ensures.workers in
    let now = c.in_ok-halve_at.ensures in
    record { each = λ k worker at. (now.given k worker at).valid.trial; count = was.count ∙ sym now.count; marks = was.marks }
