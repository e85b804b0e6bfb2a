use Rattle.std.specs.Prelude.{◌≡◌, ◌⊎◌, length}
use Rattle.apex_orders.specs.Lists.{Has}
use Rattle.apex_orders.specs.declared.replies.PossibleReply.{PossibleReply}
use Rattle.dekarino_search.proofs.witnesses.Witnesses.add_call.Given as goal

abbrev pub invariant-loop-one : goal.invariant-loop-one
invariant-loop-one l = record {
  each : (other : PossibleReply) → Has l.self.replies.items other → Has l.fn.self.replies.items other ⊎ Has l.replies other;
  count : length l.self.names.items ≡ length l.self.replies.items;
}
