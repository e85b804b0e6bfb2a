use Rattle.apex_ports.proofs.Common.{◌≡◌, ℕ, false, length, slice_get, Invalid, created_in, last_in}
use Rattle.apex_ports.proofs.initial_state.new_ports.Given as goal

abbrev pub invariant-loop : goal.invariant-loop
invariant-loop g l = record {
  count : length l.ports.items ≡ l.counter;
  created : (k : ℕ) → created_in (slice_get l.ports.items k) ≡ false;
  last : (k : ℕ) → last_in (slice_get l.ports.items k) ≡ Invalid;
}
