use denote.Param.Send.{sendable}
use Rattle.std.proofs.Crossing.{crosses}
use Rattle.apex_groups.proofs.Crossing.{searcher_send}
use Rattle.apex_groups.proofs.searcher.run_all.Goals as goal

pub for_each_mut-requires-send-T : goal.for_each_mut-requires-send-T
for_each_mut-requires-send-T g c κs within = search (searcher_send, crosses, sendable) depth 8
