use Rattle.std.proofs.Common.{◌≡◌, ◌⊎◌, ⊎_elim, inr, length, sym, subst}
use Rattle.apex_orders.specs.Lists.{Has}
use Rattle.apex_orders.specs.declared.replies.PossibleReply.{PossibleReply}
use Rattle.apex_ports.proofs.Lookups.{at_index}
use Rattle.dekarino_search.specs.declared.witnesses.Witnesses.{Witnesses}
use Rattle.dekarino_search.proofs.witnesses.Witnesses.add_call.Goals.{then-is_to+in_ok-add, else-is_to}
use Rattle.dekarino_search.proofs.witnesses.Witnesses.add_call.Goals as goal

pub loop-one-preserved : goal.loop-one-preserved
loop-one-preserved c =
    let was = c.loop-one.invariant in
    let old = c.args.self.now.replies.items in
    let replies = c.args.replies.now in
    let item = c.one-item.result in
    let here = at_index replies c.loop-one.one-index item c.loop-one-test.true c.one-item.is in
    let Each : Witnesses → Type 0 = λ found. (other : PossibleReply) → Has found.replies.items other → Has old other ⊎ Has replies other in
    let Count : Witnesses → Type 0 = λ found. length found.names.items ≡ length found.replies.items in
    elim c.if-is_to.branch [
      | then-is_to+in_ok-add w ↦ record {
        each = subst Each (sym w.self-is)
            (λ other has.
            ⊎_elim
            (λ (before : Has c.loop-one.self.replies.items other). was.each other before)
            (λ (new : item ≡ other). inr (subst (Has replies) new (c.loop-one.one-index, here)))
            (w.in_ok-add.ensures.each other has));
        count = subst Count (sym w.self-is) w.in_ok-add.ensures.count;
      }
      | else-is_to w ↦ record { each = subst Each (sym w.self-is) was.each; count = subst Count (sym w.self-is) was.count }
    ]
