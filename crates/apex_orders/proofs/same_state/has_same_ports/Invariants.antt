use Rattle.apex_orders.proofs.Common.{◌≡◌, ℕ, ◌+◌, ◌<◌, is_created, last_shown}
use Rattle.apex_orders.proofs.same_state.has_same_ports.Given as goal

abbrev pub invariant-loop-i : goal.invariant-loop-i
invariant-loop-i g l = record {
  created : (k : ℕ) → k < l.i → is_created l.p (k + 1) l.a.history ≡ is_created l.p (k + 1) l.b.history;
  last : (k : ℕ) → k < l.i → last_shown l.a.config l.a.history l.p (k + 1) ≡ last_shown l.a.config l.b.history l.p (k + 1);
}
