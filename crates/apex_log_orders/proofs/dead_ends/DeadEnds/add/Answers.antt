use Rattle.std.proofs.Common.{⊎_elim}
use Rattle.apex_log_orders.proofs.DeadEndSteps.{either_way, dead_more, dead_still}
use Rattle.apex_log_orders.proofs.dead_ends.DeadEnds.add.Goals as goal

pub returns-in-Ok : goal.returns-in-Ok
returns-in-Ok c =
    let config = c.args.config.now in
    let logs = c.args.logs.now in
    let walk = c.requires.walk in
    let key = c.in-Ok.key.items in
    let old = c.args.self.now.keys in
    let new = c.insert.new.self in
    let front = c.args.walk.now.judge.log in
    ⊎_elim
    (λ updates. dead_more config logs front key old new c.requires.dead walk.valid walk.all walk.begins c.in-Ok.ensures c.requires.none updates)
    (λ same. dead_still config logs front key old new c.requires.dead same)
    (either_way c.insert.result c.insert.ensures.updates c.insert.ensures.err)
