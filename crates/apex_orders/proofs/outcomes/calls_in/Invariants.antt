use Rattle.std.proofs.Common.{◌≡◌, ◌-◌, ◌^◌, min, length, take}
use Rattle.std.specs.List.{sum_by}
use Rattle.apex_orders.proofs.outcomes.calls_in.Given as goal

abbrev pub invariant-loop-script : goal.invariant-loop-script
invariant-loop-script l = l.calls ≡ min (sum_by length (take l.script-index l.scripts)) (2 ^ 64 - 1)
