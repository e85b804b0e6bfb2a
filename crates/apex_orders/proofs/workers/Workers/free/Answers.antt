use denote.Param.Send.{sendable}
use Rattle.std.proofs.Crossing.{crosses}
use Rattle.apex_orders.proofs.Crossing.{worker_send}
use Rattle.apex_orders.proofs.workers.Workers.free.Goals as goal

pub for_each_mut-requires-send-T : goal.for_each_mut-requires-send-T
for_each_mut-requires-send-T g c κs within = search (worker_send, crosses, sendable) depth 8
