use Rattle.apex_groups.proofs.Common.{AreRepliesBelow, ShowCountsBelow}
use Rattle.apex_groups.specs.PartSearches.{AreSearchers}
use Rattle.apex_groups.proofs.outcomes.outcomes_by_parts.Given as goal

abbrev pub invariant-loop-part : goal.invariant-loop-part
invariant-loop-part g l = record {
  searchers : AreSearchers l.clock l.config l.bound l.own l.searchers;
  replies : AreRepliesBelow l.clock l.config l.scripts l.parts l.part l.all.replies.items;
  ends : ShowCountsBelow l.clock l.config l.scripts l.parts l.part l.all.ends.items;
}
