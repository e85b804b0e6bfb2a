use Rattle.apex_orders.proofs.Common.{◌≡◌, ◌+◌, AreAnswersBy}
use Rattle.apex_orders.proofs.answer.find_answers.Given as goal

abbrev pub invariant-loop-k : goal.invariant-loop-k
invariant-loop-k l = record {
  config : l.ports.config ≡ l.config;
  answers : AreAnswersBy l.clock l.config l.scripts l.asked l.current.orders (l.from + l.k) l.answers.items;
}
