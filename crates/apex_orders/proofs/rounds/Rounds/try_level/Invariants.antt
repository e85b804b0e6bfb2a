use Rattle.apex_orders.proofs.Common.{◌≡◌, IsUnderWay}
use Rattle.apex_orders.proofs.rounds.Rounds.try_level.Given as goal

abbrev pub invariant-loop-done : goal.invariant-loop-done
invariant-loop-done g l = record {
  under_way : IsUnderWay l.clock l.config l.scripts l.asked l.self;
  first : l.self.first ≡ l.fn.self.first;
  current : l.self.current ≡ l.fn.self.current;
}
