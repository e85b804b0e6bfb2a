use Rattle.apex_orders.proofs.Enough.{enough_goes_first, trying_enough_is_enough}
use Rattle.apex_orders.proofs.commuting_law.trying_enough_is_enough.Goals as goal

pub returns-clause-step : goal.returns-clause-step
returns-clause-step c = enough_goes_first

pub returns-clause-search : goal.returns-clause-search
returns-clause-search c = trying_enough_is_enough
