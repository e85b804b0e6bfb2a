use Rattle.std.specs.VecDeque.{deque_len}
use Rattle.apex_orders.proofs.Common.{◌≡◌, ◌+◌, ◌++◌, List, length, PortsView, ℕ, ◌<◌, IsContinued, IsLaterWorker, IsWorkerOf, order_given}
use Rattle.apex_orders.proofs.worker.Worker.try_points.Given as goal

abbrev pub invariant-loop-saved : goal.invariant-loop-saved
invariant-loop-saved l = record {
  valid : IsWorkerOf l.shared l.self;
  later : IsLaterWorker l.fn.self l.self;
  left : (done : List PortsView) × ((away : List PortsView) × ((length done ≡ l.tried) × (l.fn.self.given.value.items ≡ done ++ (l.points.items ++ away))));
  same : l.tried + length l.points.items ≡ l.fn.self.tried + length l.fn.self.points.items;
  tried : (j : ℕ) → j < l.tried → IsContinued l.shared l.self (order_given l.fn.self j);
}

abbrev pub decreases-loop-saved : goal.decreases-loop-saved
decreases-loop-saved l = deque_len l.points
