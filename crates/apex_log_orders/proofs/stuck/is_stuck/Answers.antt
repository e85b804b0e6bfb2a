use Rattle.apex_log_orders.proofs.Common.{◌≡◌, ◌<◌, ◌≤◌, ⊎_elim, sym, ◌∙◌, subst, arith, false≢true, cases_lt, NeverNext}
use Rattle.apex_log_orders.proofs.Fronts.{stuck}
use Rattle.apex_log_orders.proofs.stuck.is_stuck.Goals as goal

pub loop-p-init : goal.loop-p-init
loop-p-init c q few = absurd (omega (arith, few))

pub loop-p-preserved : goal.loop-p-preserved
loop-p-preserved c q few =
    let p = c.loop-p.p in
    ⊎_elim
    (λ (before : q < p). c.loop-p.invariant q before)
    (λ (now : p ≤ q).
    let same : p ≡ q = omega (arith, few, now) in
    subst (NeverNext c.args.config.now c.args.logs.now c.args.walk.now.judge.log) same (c.is_never_next.ensures c.if-not-is_never_next.false))
    (cases_lt q p)

pub returns : goal.returns
returns c holds =
    let walk = c.requires.walk in
    let past = c.loop-p-test.false in
    let count = c.partitions-p-end.ensures.count in
    stuck c.args.config.now c.args.logs.now walk.valid c.args.walk.now.judge.log walk.begins
    (λ order. false≢true (sym c.if-has_made_all.false ∙ c.has_made_all.ensures.1 order))
    (λ p within. c.loop-p.invariant p (omega (arith, past, count, within)))
