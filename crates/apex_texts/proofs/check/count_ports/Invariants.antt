use Rattle.apex_texts.proofs.Common.{◌≡◌, ◌*◌, ◌≤◌, length, take, sum_by}
use Rattle.apex_texts.proofs.check.count_ports.Given as goal

abbrev pub invariant-loop-p : goal.invariant-loop-p
invariant-loop-p l = record {
  counted : l.ports ≡ sum_by (λ partition. length partition.ports) (take l.p l.config.partitions);
  bound : l.ports ≤ l.p * 32;
}
