use Rattle.apex_orders.proofs.ClockLemmas.{clocked_never_falls}
use Rattle.apex_orders.proofs.clock_law.clocked_never_falls.Goals as goal

pub returns : goal.returns
returns c = clocked_never_falls
