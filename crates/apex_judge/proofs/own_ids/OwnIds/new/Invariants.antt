use Rattle.std.proofs.Common.{◌≡◌, [], replicate}
use Rattle.apex_judge.proofs.own_ids.OwnIds.new.Given as goal

abbrev pub invariant-loop : goal.invariant-loop
invariant-loop l = l.partitions.items ≡ replicate l.counter []
