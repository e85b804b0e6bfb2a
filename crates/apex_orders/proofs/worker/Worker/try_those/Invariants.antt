use Rattle.apex_orders.proofs.Common.{◌≡◌, ℕ, ◌<◌, true, is_tried, HasTriedCall, IsLaterWorker, IsReady, IsWorkerOf, order_given}
use Rattle.apex_orders.proofs.worker.Worker.try_those.Given as goal

abbrev pub invariant-loop-p : goal.invariant-loop-p
invariant-loop-p l = record {
  valid : IsWorkerOf l.shared l.self;
  later : IsLaterWorker l.initial.self l.self;
  ready : l.is_there ≡ true → IsReady l.shared (order_given l.self l.j) l.self.trial.ports;
  tried : (p : ℕ) → p < l.p → is_tried l.tried p ≡ true → HasTriedCall l.shared l.self (order_given l.initial.self l.j) p;
}
