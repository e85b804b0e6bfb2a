use Rattle.apex_groups.proofs.Common.{◌≡◌, Some, map}
use Rattle.apex_groups.proofs.questions.all_answers.Given as goal

abbrev pub invariant-loop-answer : goal.invariant-loop-answer
invariant-loop-answer l = map Some l.all.items ≡ l.yielded
