use Rattle.apex_config.proofs.Common.{◌≡◌, map, take, view, partition_text_of}
use Rattle.apex_config.proofs.document.partition_texts.Given as goal

abbrev pub invariant-loop-value : goal.invariant-loop-value
invariant-loop-value l = l.partitions.items ≡ map (λ value. partition_text_of (view value)) (take l.value-index l.values)
