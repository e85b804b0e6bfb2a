use Rattle.apex_groups.proofs.Common.{◌≡◌, [], replicate}
use Rattle.apex_groups.proofs.script_parts.no_scripts.Given as goal

abbrev pub invariant-loop : goal.invariant-loop
invariant-loop l = l.scripts.items ≡ replicate l.counter []
