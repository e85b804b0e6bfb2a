use Rattle.apex_groups.proofs.Common.{◌≡◌, map}
use Rattle.apex_groups.specs.Answers.{question_about}
use Rattle.apex_groups.proofs.reply_orders.questions_about.Given as goal

abbrev pub invariant-loop-one : goal.invariant-loop-one
invariant-loop-one l = l.asked.items ≡ map question_about l.yielded
