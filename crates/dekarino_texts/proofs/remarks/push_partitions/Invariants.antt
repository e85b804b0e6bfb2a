use Rattle.dekarino_texts.proofs.Common.{◌≡◌, ◌++◌, drop, partition_remarks}
use Rattle.dekarino_texts.proofs.remarks.push_partitions.Given as goal

abbrev pub invariant-loop-p : goal.invariant-loop-p
invariant-loop-p l =
    let config = l.fn.ports.config in
    l.remarks.items ++ partition_remarks config l.fn.ports.history l.p (drop l.p config.partitions) ≡ l.fn.remarks.items ++ partition_remarks config l.fn.ports.history 0 config.partitions
