use Rattle.apex_orders.proofs.Common.{◌≡◌, false, sym, ◌∙◌, subst, arith, slice_get, Some, slice_get-get_or, slice_get_within, get_or_from_slice_get, Worker, HasTriedAll, IsUnderTrial}
use Rattle.std.specs.Prelude.{get_or}
use Rattle.std.specs.Result.{is_err}
use Rattle.apex_orders.proofs.InOrder.{in_order_still}
use Rattle.apex_orders.proofs.Levels.{still_made}
use Rattle.apex_orders.proofs.WorkerLemmas.{when_ok}
use Rattle.apex_orders.proofs.runs.try_all.Goals as goal

pub run_all-requires-clause-workers : goal.run_all-requires-clause-workers
run_all-requires-clause-workers g c κs within k worker at =
    let was = c.requires.given k worker at in
    record { valid = was.valid; left = was.left; tried = was.tried }

pub returns-clause-given : goal.returns-clause-given
returns-clause-given g c k worker at =
    let clock = c.args.clock in
    let config = c.args.config.now in
    let scripts = c.args.scripts.now in
    let current = c.args.current.now in
    let old = get_or c.args.workers.now k worker in
    let new = get_or c.run_all.new.workers k worker in
    let many = c.run_all.ensures.count in
    let inside = slice_get_within c.run_all.new.workers k worker at in
    let own : new ≡ worker = get_or_from_slice_get c.run_all.new.workers k worker worker at in
    let ok = c.have_run.ensures (c.if-not-have_run.false) k worker at in
    let ran = when_ok new.result _ (subst (λ (w : Worker). is_err w.result ≡ false) (sym own) ok) (c.run_all.ensures.ran k worker (omega (arith, inside, many))) in
    let was = c.requires.given k old (slice_get-get_or c.args.workers.now k worker (omega (arith, inside, many))) in
    subst (IsUnderTrial clock config scripts current) own (record {
      valid = ran.valid;
      base = ran.later.base ∙ was.base;
      made = still_made config scripts current.points.calls old new ran.later was.made;
      left = ran.left;
      tried = ran.tried;
    })

pub returns-clause-workers : goal.returns-clause-workers
returns-clause-workers g c k worker at = (returns-clause-given g c k worker at).valid.trial

pub returns-clause-points : goal.returns-clause-points
returns-clause-points g c from to are =
    let old = c.args.workers.now in
    let new = c.run_all.new.workers in
    let many = c.run_all.ensures.count in
    in_order_still from to old new many
    (λ k worker inside.
    let one = get_or new k worker in
    let here : slice_get new k ≡ Some one = slice_get-get_or new k worker (omega (arith, inside, many)) in
    let ok = c.have_run.ensures (c.if-not-have_run.false) k one here in
    let ran = when_ok one.result _ ok (c.run_all.ensures.ran k worker inside) in
    record { first = ran.later.first; reach = ran.reach })
    are

pub returns-clause-all : goal.returns-clause-all
returns-clause-all g c stops few k worker at =
    let new = get_or c.run_all.new.workers k worker in
    let many = c.run_all.ensures.count in
    let inside = slice_get_within c.run_all.new.workers k worker at in
    let own : new ≡ worker = get_or_from_slice_get c.run_all.new.workers k worker worker at in
    let ok = c.have_run.ensures (c.if-not-have_run.false) k worker at in
    let ran = when_ok new.result _ (subst (λ (w : Worker). is_err w.result ≡ false) (sym own) ok) (c.run_all.ensures.ran k worker (omega (arith, inside, many))) in
    subst HasTriedAll own (ran.all stops few)
