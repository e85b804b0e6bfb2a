use denote.Param.Send.{sendable}
use Rattle.std.proofs.Crossing.{crosses}
use Rattle.apex_module.proofs.config.Config.TheSendSync as config
use Rattle.apex_orders.proofs.Common.{◌≡◌, ⊎_elim, ℕ, false, cases_eq, Some, ap, sym, ◌∙◌, arith, OnOk, subst, get_or_from_slice_get, slice_get, slice_get-get_or, slice_get_within}
use Rattle.std.specs.Prelude.{get_or}
use Rattle.std.specs.Result.{is_err}
use Rattle.apex_orders.proofs.WorkerLemmas.{when_ok}
use Rattle.apex_orders.specs.Marks.{AreMarks}
use Rattle.apex_orders.specs.declared.marks.Marks.{Marks}
use Rattle.apex_orders.proofs.Crossing.{worker_sync}
use Rattle.apex_orders.proofs.marks.mark_all.Goals as goal

pub for_each_mut-requires-sync-F : goal.for_each_mut-requires-sync-F
for_each_mut-requires-sync-F g c κs within = search (worker_sync, config.the_sync, crosses, sendable) depth 8

pub for_each_mut-requires-clause-accepts : goal.for_each_mut-requires-clause-accepts
for_each_mut-requires-clause-accepts g c κs within i p below at =
    let each = c.requires.each in
    (c.requires.marks i p.now (slice_get-get_or c.args.marks.now i p.now below ∙ ap Some (sym at)), c.requires.hashed, omega (arith, below, each))

pub loop-k-preserved : goal.loop-k-preserved
loop-k-preserved g c j one below at =
    let marks = c.for_each_mut.new.items in
    let k = c.loop-k.k in
    ⊎_elim
    (λ (now : j ≡ k).
    let inside = slice_get_within marks j one at in
    let here = slice_get-get_or marks k c.index-marks-k.result (omega (arith, now, inside)) in
    let both : Some (get_or marks k c.index-marks-k.result) ≡ Some one = sym here ∙ (ap (λ (n : ℕ). slice_get marks n) (sym now) ∙ at) in
    let same : get_or marks k c.index-marks-k.result ≡ one = cc in
    subst (λ (m : Marks). is_err m.result ≡ false) same (sym c.is_err.ensures.value ∙ c.if-is_err.false))
    (λ (earlier : j ≡ k → ⊥). c.loop-k.invariant j one (omega (arith, below, earlier)) at)
    (cases_eq j k)

pub returns-clause-marked : goal.returns-clause-marked
returns-clause-marked g c k one at =
    let marks = c.for_each_mut.new.items in
    let inside = slice_get_within marks k one at in
    let same = c.for_each_mut.auto.items in
    let end = c.loop-k-test.false in
    let change = (c.for_each_mut.ensures k one (omega (arith, inside, same))).1 in
    let own = change.left ∙ get_or_from_slice_get marks k one one at in
    let ran = subst (λ (m : Marks). OnOk m.result (AreMarks c.args.workers.now k m.known.items)) own change.call.1 in
    when_ok one.result (AreMarks c.args.workers.now k one.known.items) (c.loop-k.invariant k one (omega (arith, inside, end)) at) ran
