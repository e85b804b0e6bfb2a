use Rattle.apex_log_orders.proofs.Common.{◌≡◌, ◌<◌, ◌≤◌, ⊎_elim, length, Some, sym, ap, ◌∙◌, subst, arith, slice_get, false≢true, cases_lt, Entry, History, at_index, Writes}
use Rattle.apex_log_orders.proofs.reads.none_writes.Goals as goal

pub loop-k-init : goal.loop-k-init
loop-k-init c k entry from below at = absurd (omega (arith, from, below))

pub loop-k-preserved : goal.loop-k-preserved
loop-k-preserved c k entry from below at =
    let items = c.log.inside.entries.items in
    let i = c.loop-k.k in
    let test = c.loop-k-test.true in
    let all = c.requires in
    let viewed = ap (λ (es : History). length es) c.log.view_is in
    ⊎_elim
    (λ (before : k < i). c.loop-k.invariant k entry from before at)
    (λ (now : i ≤ k).
    let same : i ≡ k = omega (arith, below, now) in
    let within : i < length items = omega (arith, test, all, viewed) in
    let here : slice_get c.args.log.now i ≡ Some c.index.result.now = ap (λ (es : History). slice_get es i) (sym c.log.view_is) ∙ at_index items i c.index.result.now within c.index.ensures in
    let both : Some c.index.result.now ≡ Some entry = sym here ∙ (ap (slice_get c.args.log.now) same ∙ at) in
    let is : c.index.result.now ≡ entry = cc in
    subst (λ (x : Entry). Writes c.args.config.now c.args.channel c.args.message.now x → ⊥) is (c.writes.ensures (λ holds. false≢true (sym c.if-writes.false ∙ holds))))
    (cases_lt k i)

pub returns : goal.returns
returns c holds k entry from below at =
    let past = c.loop-k-test.false in
    c.loop-k.invariant k entry from (omega (arith, below, past)) at
