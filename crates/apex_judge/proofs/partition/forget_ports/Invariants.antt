use Rattle.apex_judge.proofs.Common.{◌≡◌, ℕ, ◌<◌, false, slice_get, created_in, last_in, doubted_in}
use Rattle.apex_judge.proofs.partition.forget_ports.Given as goal

abbrev pub invariant-loop-port : goal.invariant-loop-port
invariant-loop-port l = record {
  forgotten : (k : ℕ) → k < l.port-index → created_in (slice_get l.ports k) ≡ false;
  doubted : (k : ℕ) → doubted_in (slice_get l.ports k) ≡ doubted_in (slice_get l.fn.ports k);
  same : (k : ℕ) → last_in (slice_get l.ports k) ≡ last_in (slice_get l.fn.ports k);
}
