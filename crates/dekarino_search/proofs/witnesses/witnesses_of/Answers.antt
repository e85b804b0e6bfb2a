use Rattle.std.proofs.Common.{◌≡◌, ⊎_elim, length, sym, subst}
use Rattle.apex_orders.specs.Lists.{Has}
use Rattle.apex_orders.specs.declared.replies.PossibleReply.{PossibleReply}
use Rattle.dekarino_search.specs.declared.witnesses.Witnesses.{Witnesses}
use Rattle.dekarino_search.proofs.witnesses.witnesses_of.Goals.{then-len-gt1+then-len-lt-MOST_FILES+in_ok-add_call, else-len-gt1}
use Rattle.dekarino_search.proofs.witnesses.witnesses_of.Goals as goal

pub loop-index-preserved : goal.loop-index-preserved
loop-index-preserved c =
    let was = c.loop-index.invariant in
    let replies = c.args.replies.now in
    let Each : Witnesses → Type 0 = λ found. (one : PossibleReply) → Has found.replies.items one → Has replies one in
    let Count : Witnesses → Type 0 = λ found. length found.names.items ≡ length found.replies.items in
    elim c.if-len-gt1.branch [
      | then-len-gt1+then-len-lt-MOST_FILES+in_ok-add_call w ↦ record {
        each = subst Each (sym w.found-is)
            (λ one has.
            ⊎_elim
            (λ (before : Has c.loop-index.found.replies.items one). was.each one before)
            (λ (here : Has replies one). here)
            (w.in_ok-add_call.ensures.each one has));
        count = subst Count (sym w.found-is) w.in_ok-add_call.ensures.count;
      }
      | else-len-gt1 w ↦ record { each = subst Each (sym w.found-is) was.each; count = subst Count (sym w.found-is) was.count }
    ]
