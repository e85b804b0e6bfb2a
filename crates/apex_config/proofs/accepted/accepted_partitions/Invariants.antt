use Rattle.apex_config.proofs.Common.{◌≡◌, map, take, partition_of_text}
use Rattle.apex_config.proofs.accepted.accepted_partitions.Given as goal

abbrev pub invariant-loop-text : goal.invariant-loop-text
invariant-loop-text l = l.partitions.items ≡ map (partition_of_text l.channels) (take l.text-index l.texts)
