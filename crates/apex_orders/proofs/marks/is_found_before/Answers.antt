use Rattle.apex_orders.proofs.Common.{◌≡◌, ⊎_elim, ℕ, Some, arith, ap, sym, ◌∙◌, subst, refl, slice_get, slice_get-get_or, cases_eq, false≢true, Worker, AreHashed, HasPoint}
use Rattle.std.specs.Prelude.{get_or}
use Rattle.apex_orders.proofs.marks.is_found_before.Goals as goal

pub has_point-requires-clause-hashed : goal.has_point-requires-clause-hashed
has_point-requires-clause-hashed c =
    let end = c.loop-i-test.true in
    let all = c.requires.index in
    subst (λ (worker : Worker). AreHashed c.args.config.now worker.found.items worker.hashes) (sym c.index-workers-i.is)
    (c.requires.hashed c.loop-i.i (get_or c.args.workers.now c.loop-i.i c.index-workers-i.result) (slice_get-get_or c.args.workers.now c.loop-i.i c.index-workers-i.result (omega (arith, end, all)))).hashed

pub returns-then-has_point-clause-found : goal.returns-then-has_point-clause-found
returns-then-has_point-clause-found c = (
  λ yes.
      let end = c.loop-i-test.true in
      let all = c.requires.index in
      record {
        index = c.loop-i.i;
        before = end;
        worker = get_or c.args.workers.now c.loop-i.i c.index-workers-i.result;
        here = slice_get-get_or c.args.workers.now c.loop-i.i c.index-workers-i.result (omega (arith, end, all));
        has = subst (λ (worker : Worker). HasPoint worker.found.items c.args.one.now.saved) c.index-workers-i.is (c.has_point.ensures.found.0 c.if-has_point.true);
      },
  λ has. refl,
)

pub loop-i-preserved : goal.loop-i-preserved
loop-i-preserved c = record {
  trial = c.has_point.ensures.trial;
  none = λ i worker below at has.
      ⊎_elim
      (λ (now : i ≡ c.loop-i.i).
      let end = c.loop-i-test.true in
      let all = c.requires.index in
      let own = slice_get-get_or c.args.workers.now c.loop-i.i c.index-workers-i.result (omega (arith, end, all)) in
      let both : Some (get_or c.args.workers.now c.loop-i.i c.index-workers-i.result) ≡ Some worker = sym own ∙ (ap (λ (n : ℕ). slice_get c.args.workers.now n) (sym now) ∙ at) in
      let same : get_or c.args.workers.now c.loop-i.i c.index-workers-i.result ≡ worker = cc in
      let mine : c.index-workers-i.result ≡ worker = c.index-workers-i.is ∙ same in
      absurd (false≢true (sym c.if-has_point.false ∙ c.has_point.ensures.found.1 (subst (λ (w : Worker). HasPoint w.found.items c.args.one.now.saved) (sym mine) has))))
      (λ (earlier : i ≡ c.loop-i.i → ⊥). c.loop-i.invariant.none i worker (omega (arith, below, earlier)) at has)
      (cases_eq i c.loop-i.i);
}

pub returns-clause-found : goal.returns-clause-found
returns-clause-found c = (
  λ no. absurd (false≢true no),
  λ has. let end = c.loop-i-test.false in let before = has.before in absurd (c.loop-i.invariant.none has.index has.worker (omega (arith, end, before)) has.here has.has),
)
