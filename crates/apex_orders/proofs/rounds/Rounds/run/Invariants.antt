use Rattle.apex_orders.proofs.Common.{◌+◌, ◌-◌, IsUnderWay}
use Rattle.apex_orders.proofs.rounds.Rounds.run.Given as goal

abbrev pub invariant-loop-alloc : goal.invariant-loop-alloc
invariant-loop-alloc g l = IsUnderWay l.clock l.config l.scripts l.asked l.self

abbrev pub decreases-loop-alloc : goal.decreases-loop-alloc
decreases-loop-alloc g l = l.bound + 1 - l.self.first
