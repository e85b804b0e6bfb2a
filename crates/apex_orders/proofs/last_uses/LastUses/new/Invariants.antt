use Rattle.apex_orders.specs.LastUses.{AreLastUsesBelow}
use Rattle.apex_orders.proofs.last_uses.LastUses.new.Given as goal

abbrev pub invariant-loop-k : goal.invariant-loop-k
invariant-loop-k l = AreLastUsesBelow l.config l.p l.script l.k l.uses
