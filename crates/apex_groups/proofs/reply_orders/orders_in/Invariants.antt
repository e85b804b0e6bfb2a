use Rattle.apex_groups.proofs.Common.{◌≡◌, map}
use Rattle.apex_groups.specs.Answers.{answer_with}
use Rattle.apex_groups.proofs.reply_orders.orders_in.Given as goal

abbrev pub invariant-loop-answer : goal.invariant-loop-answer
invariant-loop-answer l = map answer_with l.orders.items ≡ l.yielded
