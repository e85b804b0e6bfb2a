use Rattle.apex_orders.proofs.Common.{◌+◌, ◌<◌, ℕ, AreAnswersBy, IsReadyAfter, order_at}
use Rattle.apex_orders.specs.Searching.{AreOpenOf}
use Rattle.apex_orders.proofs.answer.answer_at.Given as goal

abbrev pub invariant-loop-p : goal.invariant-loop-p
invariant-loop-p l = record {
  ready : IsReadyAfter l.config l.scripts (order_at l.current.orders l.i) l.ports;
  answers : AreAnswersBy l.clock l.config l.scripts l.asked l.current.orders l.i l.answers.items;
  looked : (p : ℕ) → p < l.p → AreOpenOf l.clock l.config l.scripts l.asked l.current.orders (l.i + 1) l.answers.items p;
}
