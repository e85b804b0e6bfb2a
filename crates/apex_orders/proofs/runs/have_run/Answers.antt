use Rattle.apex_orders.proofs.Common.{◌≡◌, ⊎_elim, ℕ, false, cases_eq, Some, ap, sym, ◌∙◌, arith, subst, slice_get, slice_get-get_or, slice_get_within, Worker}
use Rattle.std.specs.Prelude.{get_or}
use Rattle.std.specs.Result.{is_err}
use Rattle.apex_orders.proofs.runs.have_run.Goals as goal

pub loop-k-preserved : goal.loop-k-preserved
loop-k-preserved c j worker below at =
    let workers = c.args.workers.now in
    let k = c.loop-k.k in
    ⊎_elim
    (λ (now : j ≡ k).
    let inside = slice_get_within workers j worker at in
    let here = slice_get-get_or workers k c.index-workers-k.result (omega (arith, now, inside)) in
    let both : Some (get_or workers k c.index-workers-k.result) ≡ Some worker = sym here ∙ (ap (λ (n : ℕ). slice_get workers n) (sym now) ∙ at) in
    let same : get_or workers k c.index-workers-k.result ≡ worker = cc in
    subst (λ (w : Worker). is_err w.result ≡ false) same (sym c.is_err.ensures.value ∙ c.if-is_err.false))
    (λ (earlier : j ≡ k → ⊥). c.loop-k.invariant j worker (omega (arith, below, earlier)) at)
    (cases_eq j k)

pub returns : goal.returns
returns c is k worker at =
    let inside = slice_get_within c.args.workers.now k worker at in
    let end = c.loop-k-test.false in
    c.loop-k.invariant k worker (omega (arith, inside, end)) at
