use Rattle.std.specs.VecDeque.{deque_len}
use Rattle.apex_orders.proofs.Common.{◌≡◌, ◌⊎◌, ◌≤◌, ℕ, List, Some, drop, false, slice_get, FoundPoint, Has, Includes, IsSameLevel, IsTrialOf, IsLater, IsSearch, Knows, KnowsFrom, history_of, order_found}
use Rattle.apex_orders.specs.Marks.{IsFoundOrder}
use Rattle.apex_orders.proofs.search.Search.add_points.Given as goal

abbrev pub invariant-loop-one : goal.invariant-loop-one
invariant-loop-one l = record {
  valid : IsSearch l.clock l.config l.scripts l.self;
  later : IsLater l.initial.self l.self;
  level : IsSameLevel l.initial.self.points l.self.points;
  index : l.worker.first ≡ l.initial.worker.first;
  trial : IsTrialOf l.config l.worker.trial;
  left : Includes l.worker.found.items l.initial.worker.found.items;
  rest : drop l.at l.initial.worker.found.items ≡ l.worker.found.items;
  known : (one : FoundPoint) → Has l.initial.worker.found.items one
      → Has l.worker.found.items one ⊎ Knows l.config l.scripts l.self.orders (history_of l.config l.scripts (order_found l.initial.worker one));
  new : (j : ℕ) (one : FoundPoint) → l.at ≤ j → slice_get l.initial.worker.found.items j ≡ Some one → slice_get l.known j ≡ Some false
      → ¬ KnowsFrom l.config l.scripts l.self.orders l.self.points.next one.saved.history;
  from : (order : List ℕ) → Has l.self.orders order → Has l.initial.self.orders order ⊎ IsFoundOrder l.initial.worker order;
}

abbrev pub decreases-loop-one : goal.decreases-loop-one
decreases-loop-one l = deque_len l.worker.found
