use Rattle.dekarino_texts.proofs.Common.{◌≡◌, ◌++◌, drop, partners_of}
use Rattle.dekarino_texts.proofs.table.partners_of.Given as goal

abbrev pub invariant-loop-p : goal.invariant-loop-p
invariant-loop-p l = l.places.items ++ partners_of l.port l.p (drop l.p l.config.partitions) ≡ partners_of l.port 0 l.config.partitions
