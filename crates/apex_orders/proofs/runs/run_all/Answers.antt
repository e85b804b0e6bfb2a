use denote.Param.Send.{sendable}
use Rattle.std.proofs.Crossing.{crosses}
use Rattle.apex_orders.proofs.Common.{◌∙◌, ap, sym, Some, slice_get-get_or}
use Rattle.apex_orders.proofs.Crossing.{shared_sync, worker_send}
use Rattle.apex_orders.proofs.runs.run_all.Goals as goal

pub for_each_mut-requires-send-T : goal.for_each_mut-requires-send-T
for_each_mut-requires-send-T g c κs within = search (worker_send, crosses, sendable) depth 8

pub for_each_mut-requires-sync-F : goal.for_each_mut-requires-sync-F
for_each_mut-requires-sync-F g c κs within = search (shared_sync, crosses, sendable) depth 8

pub for_each_mut-requires-clause-accepts : goal.for_each_mut-requires-clause-accepts
for_each_mut-requires-clause-accepts g c κs within i p below is κs-2 a b n m same ranges buffer size lifetimes =
    (c.requires.shared, c.requires.workers i p.now (slice_get-get_or c.args.workers.now i p.now below ∙ ap Some (sym is)))
