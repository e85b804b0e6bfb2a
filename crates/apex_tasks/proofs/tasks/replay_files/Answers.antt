use Rattle.std.proofs.Common.{Ok, Err}
use Rattle.apex_tasks.proofs.TaskLemmas.{file_replay}
use Rattle.apex_tasks.proofs.tasks.replay_files.Goals as goal

pub returns-in-Ok : goal.returns-in-Ok
returns-in-Ok g c =
    file_replay (g.O.Opener.bytes_at c.args.opener.now c.args.config.now) (g.O.Opener.bytes_at c.args.opener.now c.args.trace.now) (Ok c.in-Ok.report) c.in_ok-config.config c.in_ok-text.text.items
    c.in_ok-config.ensures c.in_ok-text.ensures (rw c.as_slice.ensures.value at c.in-Ok.ensures)

pub returns : goal.returns
returns g c =
    file_replay (g.O.Opener.bytes_at c.args.opener.now c.args.config.now) (g.O.Opener.bytes_at c.args.opener.now c.args.trace.now) (Err c.in-Err.fault) c.in_ok-config.config c.in_ok-text.text.items
    c.in_ok-config.ensures c.in_ok-text.ensures (rw c.as_slice.ensures.value at c.in-Err.ensures)
