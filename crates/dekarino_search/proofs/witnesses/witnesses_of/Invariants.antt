use Rattle.std.specs.Prelude.{◌≡◌, length}
use Rattle.apex_orders.specs.Lists.{Has}
use Rattle.apex_orders.specs.declared.replies.PossibleReply.{PossibleReply}
use Rattle.dekarino_search.proofs.witnesses.witnesses_of.Given as goal

abbrev pub invariant-loop-p : goal.invariant-loop-p
invariant-loop-p l = record {
  each : (one : PossibleReply) → Has l.found.replies.items one → Has l.replies one;
  count : length l.found.names.items ≡ length l.found.replies.items;
}

abbrev pub invariant-loop-index : goal.invariant-loop-index
invariant-loop-index l = record {
  each : (one : PossibleReply) → Has l.found.replies.items one → Has l.replies one;
  count : length l.found.names.items ≡ length l.found.replies.items;
}
