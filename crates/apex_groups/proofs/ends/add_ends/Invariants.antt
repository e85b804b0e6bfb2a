use Rattle.apex_groups.proofs.Common.{take, in_group, AreEndsAdded}
use Rattle.apex_groups.proofs.ends.add_ends.Given as goal

abbrev pub invariant-loop-end : goal.invariant-loop-end
invariant-loop-end l =
    AreEndsAdded l.clock l.config (in_group l.members.of_partitions.items 1) l.scripts (take l.end-index l.ends) l.fn.all.items l.all.items
