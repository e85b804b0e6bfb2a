use Rattle.apex_orders.proofs.Common.{length, ◌≡◌, AreWorkers}
use Rattle.apex_orders.proofs.workers.Workers.make.Given as goal

abbrev pub invariant-loop : goal.invariant-loop
invariant-loop l = AreWorkers l.config l.self

abbrev pub invariant-loop-2 : goal.invariant-loop-2
invariant-loop-2 l = record {
  workers : AreWorkers l.config l.self;
  count : length l.self.all.items ≡ l.counter;
}
