use Rattle.apex_groups.proofs.Common.{in_group, ArePut, IsMergedAnswer}
use Rattle.apex_groups.proofs.part_answers.put_merged.Given as goal

abbrev pub invariant-loop-index : goal.invariant-loop-index
invariant-loop-index l =
    ArePut (IsMergedAnswer l.clock l.config l.scripts (in_group l.members.of_partitions.items 1)) l.indexes l.found l.fn.answers l.answers
