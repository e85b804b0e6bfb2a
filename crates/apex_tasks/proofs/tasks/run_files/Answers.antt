use Rattle.std.proofs.Common.{Ok, Err}
use Rattle.apex_tasks.proofs.TaskLemmas.{file_run}
use Rattle.apex_tasks.proofs.tasks.run_files.Goals as goal

pub returns-in-Ok : goal.returns-in-Ok
returns-in-Ok g c =
    file_run (g.O.Opener.bytes_at c.args.opener.now) c.args.arguments.now (g.O.Opener.bytes_at c.args.opener.now c.args.config.now) c.in_ok-scripts.scripts.items (Ok c.in-Ok.report) c.in_ok-config.config
    c.in_ok-config.ensures c.in_ok-scripts.ensures (rw c.as_slice.ensures.value at c.in-Ok.ensures)

pub returns : goal.returns
returns g c =
    file_run (g.O.Opener.bytes_at c.args.opener.now) c.args.arguments.now (g.O.Opener.bytes_at c.args.opener.now c.args.config.now) c.as_slice.result.now (Err c.in-Err.fault) c.in_ok-config.config
    c.in_ok-config.ensures (rw c.as_slice.ensures.value c.in_ok-scripts.ensures) c.in-Err.ensures
