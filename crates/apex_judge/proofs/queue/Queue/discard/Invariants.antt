use Rattle.std.proofs.Common.{◌≡◌, drop}
use Rattle.apex_judge.proofs.queue.Queue.discard.Given as goal

abbrev pub invariant-loop : goal.invariant-loop
invariant-loop g l = l.self ≡ drop l.counter l.fn.self
