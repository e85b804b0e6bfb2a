use Rattle.apex_orders.proofs.Common.{◌≡◌, ℕ, length, Some, slice_get, IsNextUse}
use Rattle.apex_orders.specs.declared.choice.NextUse.{NextUse}
use Rattle.apex_orders.proofs.choice.next_uses.Given as goal

abbrev pub invariant-loop-p : goal.invariant-loop-p
invariant-loop-p l = record {
  count : length l.nexts.items ≡ l.p;
  each : (p : ℕ) (next : NextUse) → slice_get l.nexts.items p ≡ Some next → IsNextUse l.ports.config l.scripts l.ports.history p next;
}
