use Rattle.std.proofs.Common.{sym, rules}
use Rattle.apex_judge.proofs.QueueSteps.{not_there}
use Rattle.apex_judge.proofs.queue.Queue.index_of.Goals as goal

pub returns-then-times-eq0-clause-index : goal.returns-then-times-eq0-clause-index
returns-then-times-eq0-clause-index g c =
    sym (not_there c.count_from-self-inside.new.tally c.count_from-self-inside.result c.self.inside.messages.items c.args.message.now c.count_from-self-inside.ensures (search rules) (search rules))
