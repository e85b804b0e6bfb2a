use Rattle.apex_orders.proofs.Common.{◌≡◌, ◌⊎◌, ◌<◌, ◌≤◌, ℕ, List, Has, Knows, history_of, orders_known, length, slice_get, Some, Worker, HasTried, IsLater, IsSameLevel, IsSearch, IsTrialOf}
use Rattle.apex_orders.proofs.InOrder.{IsPointOf}
use Rattle.apex_orders.specs.Marks.{IsFoundOrderBefore}
use Rattle.apex_orders.proofs.workers.finish_all.Given as goal

abbrev pub invariant-loop-k : goal.invariant-loop-k
invariant-loop-k l = record {
  valid : IsSearch l.clock l.config l.scripts l.current;
  later : IsLater l.initial.current l.current;
  level : IsSameLevel l.initial.current.points l.current.points;
  many : length l.workers ≡ length l.initial.workers;
  rest : (j : ℕ) → l.k ≤ j → slice_get l.workers j ≡ slice_get l.initial.workers j;
  tried : (j i : ℕ) (worker : Worker) → j < l.k → slice_get l.initial.workers j ≡ Some worker → IsPointOf worker i
      → HasTried l.clock l.config l.scripts l.current.orders l.current.replies i;
  trial : (j : ℕ) (worker : Worker) → j < l.k → slice_get l.workers j ≡ Some worker → IsTrialOf l.config worker.trial;
  known : (j : ℕ) (worker : Worker) (order : List ℕ) → j < l.k → slice_get l.initial.workers j ≡ Some worker → Has (orders_known worker) order
      → Knows l.config l.scripts l.current.orders (history_of l.config l.scripts order);
  from : (order : List ℕ) → Has l.current.orders order → Has l.initial.current.orders order ⊎ IsFoundOrderBefore l.initial.workers l.k order;
}
