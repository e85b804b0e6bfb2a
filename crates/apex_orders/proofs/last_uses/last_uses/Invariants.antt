use Rattle.apex_orders.proofs.Common.{◌≡◌, ◌<◌, ◌≤◌, ◌-◌, ◌^◌, ℕ, length, Some, slice_get, LastUses, AreLastUses, script_of}
use Rattle.apex_orders.proofs.last_uses.last_uses.Given as goal

abbrev pub invariant-loop-p : goal.invariant-loop-p
invariant-loop-p l = record {
  count : length l.uses.items ≡ l.p;
  each : (p : ℕ) (one : LastUses) → slice_get l.uses.items p ≡ Some one → AreLastUses l.config p (script_of l.scripts p) one;
  short : (p : ℕ) → p < l.p → length (script_of l.scripts p) ≤ 2 ^ 64 - 1;
}
