use Rattle.apex_ports.proofs.Common.{◌≡◌, ℕ, ◌<◌, false, slice_get, created_in, last_in}
use Rattle.apex_ports.proofs.partition.forget_ports.Given as goal

abbrev pub invariant-loop-port : goal.invariant-loop-port
invariant-loop-port l = record {
  forgotten : (k : ℕ) → k < l.port-index → created_in (slice_get l.ports k) ≡ false;
  same : (k : ℕ) → last_in (slice_get l.ports k) ≡ last_in (slice_get l.fn.ports k);
}
