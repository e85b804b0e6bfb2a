use Rattle.apex_orders.proofs.Common.{subst, sym, HaveInOrder}
use Rattle.apex_orders.proofs.workers.Workers.finish.Goals as goal

pub returns-clause-tried : goal.returns-clause-tried
returns-clause-tried g c from to are =
    c.in_ok-finish_all.ensures.tried from to (subst (HaveInOrder from to) (sym c.as_mut_slice-workers.ensures.value) are)
