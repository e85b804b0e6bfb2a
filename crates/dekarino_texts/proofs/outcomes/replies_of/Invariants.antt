use Rattle.std.proofs.Common.{◌≡◌, ◌++◌, drop, map, length}
use Rattle.apex_ports.specs.Kept.{EachAt}
use Rattle.dekarino_texts.specs.Outcomes.{replies_to}
use Rattle.dekarino_texts.proofs.outcomes.replies_of.Given as goal

abbrev pub invariant-loop-one : goal.invariant-loop-one
invariant-loop-one l = record {
  count : length l.found.items ≡ l.calls;
  each : EachAt (λ index own. map (λ reply. reply.now) own.items ++ replies_to l.p index (drop l.one-index l.replies) ≡ replies_to l.p index l.replies) l.found.items;
}
