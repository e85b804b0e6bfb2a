use Rattle.std.proofs.Common.{rules, sym}
use Rattle.apex_ports.proofs.table.replies.oldest_at.Goals as goal

pub returns-in_err-port : goal.returns-in_err-port
returns-in_err-port g c =
    let none = g.met.V.View.nothing_waits c.args.config.now c.args.view.now c.args.partition c.args.id (sym c.in_err-port.ensures.found) in
    search rules
