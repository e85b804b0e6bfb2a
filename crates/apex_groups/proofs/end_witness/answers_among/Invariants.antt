use Rattle.apex_groups.proofs.Common.{◌≡◌, ℕ, List, length, Option, Some, slice_get}
use Rattle.apex_groups.specs.Ends.{FindsEnd}
use Rattle.apex_groups.specs.declared.asked_end.AskedEnd.{AskedEnd}
use Rattle.apex_groups.proofs.end_witness.answers_among.Given as goal

abbrev pub invariant-loop-one : goal.invariant-loop-one
invariant-loop-one l = record {
  count : length l.answers.items ≡ l.one-index;
  each : (k : ℕ) (one : AskedEnd) (answer : Option (List ℕ)) → slice_get l.asked k ≡ Some one → slice_get l.answers.items k ≡ Some answer
      → FindsEnd l.config l.scripts l.orders one answer;
}
