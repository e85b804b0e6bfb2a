use Rattle.apex_groups.proofs.Common.{◌≡◌, ℕ, ◌<◌, List, slice_get, Some, history_of}
use Rattle.apex_groups.specs.Ends.{IsSuchEnd}
use Rattle.apex_groups.proofs.end_witness.first_to_end.Given as goal

abbrev pub invariant-loop-order : goal.invariant-loop-order
invariant-loop-order l = record {
  config : l.replayer.config ≡ l.config;
  none : (k : ℕ) (order : List ℕ) → k < l.order-index → slice_get l.orders k ≡ Some order → ¬ IsSuchEnd l.config l.asked (history_of l.config l.scripts order);
}
