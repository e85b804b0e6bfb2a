use Rattle.apex_judge.specs.Tally.{IsCounted}
use Rattle.apex_judge.proofs.queue.count_from.Given as goal

abbrev pub invariant-loop-index : goal.invariant-loop-index
invariant-loop-index g l = IsCounted l.tally l.index l.messages.items
