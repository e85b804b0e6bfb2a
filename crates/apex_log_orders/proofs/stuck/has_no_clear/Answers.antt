use Rattle.apex_log_orders.proofs.Common.{◌≡◌, ◌+◌, ℕ, suc, take, refl, sym, ◌∙◌, subst, arith, take_all, HasNoClear, at_index}
use Rattle.apex_log_orders.proofs.OwnEntries.{no_clear_more}
use Rattle.apex_log_orders.proofs.stuck.has_no_clear.Goals as goal

pub loop-entry-init : goal.loop-entry-init
loop-entry-init c = refl

pub loop-entry-preserved : goal.loop-entry-preserved
loop-entry-preserved c =
    let items = c.deref-entry-items.result.now in
    let i = c.loop-entry.entry-index in
    let here = at_index items i c.entry-item.result c.loop-entry-test.true c.entry-item.is in
    let is : suc i ≡ i + 1 = omega arith in
    subst (λ (n : ℕ). HasNoClear (take n items)) is
    (no_clear_more items i c.entry-item.result here (sym c.asks_clear.ensures ∙ c.if-asks_clear.false) c.loop-entry.invariant)

pub returns : goal.returns
returns c holds =
    let items = c.deref-entry-items.result.now in
    subst HasNoClear (take_all c.loop-entry.entry-index items c.loop-entry-test.false ∙ (c.deref-entry-items.ensures.value ∙ c.log.view_is)) c.loop-entry.invariant
