use Rattle.apex_groups.proofs.Common.{◌≡◌, take}
use Rattle.apex_groups.proofs.script_parts.copy_of.Given as goal

abbrev pub invariant-loop-k : goal.invariant-loop-k
invariant-loop-k l = l.calls.items ≡ take l.k l.script
