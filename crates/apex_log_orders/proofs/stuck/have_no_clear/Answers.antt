use Rattle.apex_log_orders.proofs.Common.{◌≡◌, ◌<◌, ◌≤◌, ⊎_elim, ℕ, [], length, Option, refl, sym, ap, subst, arith, unwrap_or, cases_lt, slice_get_past, History, HasNoClear, at_index, log_in}
use Rattle.apex_log_orders.proofs.stuck.have_no_clear.Goals as goal

pub loop-log-init : goal.loop-log-init
loop-log-init c q few = absurd (omega (arith, few))

pub loop-log-preserved : goal.loop-log-preserved
loop-log-preserved c q few =
    let logs = c.args.logs.now in
    let i = c.loop-log.log-index in
    ⊎_elim
    (λ (before : q < i). c.loop-log.invariant q before)
    (λ (now : i ≤ q).
    let same : i ≡ q = omega (arith, few, now) in
    let here : log_in logs i ≡ c.log-item.result = ap (λ (o : Option History). unwrap_or o []) (at_index logs i c.log-item.result c.loop-log-test.true c.log-item.is) in
    subst (λ (n : ℕ). HasNoClear (log_in logs n)) same (subst HasNoClear (sym here) (c.has_no_clear.ensures c.if-not-has_no_clear.false)))
    (cases_lt q i)

pub returns : goal.returns
returns c holds q =
    let logs = c.args.logs.now in
    let past = c.loop-log-test.false in
    ⊎_elim
    (λ (inside : q < length logs). c.loop-log.invariant q (omega (arith, past, inside)))
    (λ (beyond : length logs ≤ q). subst HasNoClear (sym (ap (λ (o : Option History). unwrap_or o []) (slice_get_past logs q beyond))) refl)
    (cases_lt q (length logs))
