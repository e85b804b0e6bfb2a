use Rattle.apex_groups.proofs.Common.{◌≡◌, None, replicate}
use Rattle.apex_groups.proofs.questions.no_answers.Given as goal

abbrev pub invariant-loop : goal.invariant-loop
invariant-loop l = l.answers.items ≡ replicate l.counter None
