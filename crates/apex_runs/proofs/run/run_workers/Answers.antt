use Rattle.apex_runs.proofs.Crossing.{SharedPorts-sync}
use Rattle.apex_runs.specs.contracts.run.run_workers as run_workers
use Rattle.apex_runs.proofs.run.run_workers.Goals as goal

pub run_over-answered-requires-sync-S : goal.run_over-answered-requires-sync-S
run_over-answered-requires-sync-S g c κs within =
    record { shared = (SharedPorts-sync (run_workers.A-row g.row.R g.row.G g.row.A) g.A.Allocator c.type_bounds.send-A c.type_bounds.sync-A c.type_bounds.frees-A-Allocator).shared }
