use Rattle.apex_groups.proofs.Common.{◌≡◌, [], replicate}
use Rattle.apex_groups.proofs.log_parts.no_logs.Given as goal

abbrev pub invariant-loop : goal.invariant-loop
invariant-loop l = l.logs.items ≡ replicate l.counter []
