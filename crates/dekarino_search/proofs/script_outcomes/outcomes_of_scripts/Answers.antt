use Rattle.std.proofs.Common.{List, sym, subst}
use Rattle.apex_orders.specs.declared.replies.PossibleReply.{PossibleReply}
use Rattle.apex_orders.specs.Outcomes.{AreRepliesWith}
use Rattle.dekarino_search.proofs.script_outcomes.outcomes_of_scripts.Goals as goal

pub write_witnesses-requires-clause-replies : goal.write_witnesses-requires-clause-replies
write_witnesses-requires-clause-replies g c κs inside =
    subst (λ (replies : List PossibleReply). AreRepliesWith c.args.limits.clock c.in_ok-config.config c.as_mut_slice-scripts.result.now replies) (sym c.as_slice-replies.ensures.value)
    c.in-Ok.ensures.replies
