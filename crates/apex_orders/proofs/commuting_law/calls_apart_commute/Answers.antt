use Rattle.apex_orders.proofs.Swapping.{always_commutes}
use Rattle.apex_orders.proofs.commuting_law.calls_apart_commute.Goals as goal

pub returns : goal.returns
returns c = always_commutes
