use Rattle.apex_orders.proofs.Common.{◌≡◌, ◌+◌, ◌<◌, ◌≤◌, ℕ, length, slice_get, Some, take, Worker, HaveInOrder, IsSearch, IsUnderTrial, IsTrialOf}
use Rattle.apex_orders.proofs.workers.give_all.Given as goal

abbrev pub invariant-loop-k : goal.invariant-loop-k
invariant-loop-k l = record {
  valid : IsSearch l.clock l.config l.scripts l.current;
  orders : l.current.orders ≡ l.initial.current.orders;
  replies : l.current.replies ≡ l.initial.current.replies;
  next : l.current.points.next ≡ l.initial.current.points.next;
  calls : l.current.points.calls ≡ l.initial.current.points.calls;
  first : l.current.points.first + l.left ≡ l.initial.current.points.first + l.count;
  low : l.initial.current.points.first ≤ l.current.points.first;
  last : l.k ≡ length l.workers → l.left ≡ 0;
  many : length l.workers ≡ length l.initial.workers;
  rest : (j : ℕ) (worker : Worker) → l.k ≤ j → slice_get l.workers j ≡ Some worker → IsTrialOf l.config worker.trial;
  given : (j : ℕ) (worker : Worker) → j < l.k → slice_get l.workers j ≡ Some worker → IsUnderTrial l.clock l.config l.scripts l.current worker;
  points : HaveInOrder l.initial.current.points.first l.current.points.first (take l.k l.workers);
}
