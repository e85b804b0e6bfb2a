use Rattle.apex_orders.specs.Buckets.{AreFiledBelow}
use Rattle.apex_orders.proofs.hash_index.spread.Given as goal

abbrev pub invariant-loop-index : goal.invariant-loop-index
invariant-loop-index l = AreFiledBelow l.hashes l.earlier.items l.more.items l.index
