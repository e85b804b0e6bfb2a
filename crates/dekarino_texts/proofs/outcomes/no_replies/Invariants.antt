use Rattle.std.proofs.Common.{◌≡◌, [], length}
use Rattle.apex_ports.specs.Kept.{EachAt}
use Rattle.dekarino_texts.proofs.outcomes.no_replies.Given as goal

abbrev pub invariant-loop : goal.invariant-loop
invariant-loop l = record {
  count : length l.found.items ≡ l.counter;
  each : EachAt (λ _ own. own.items ≡ []) l.found.items;
}
