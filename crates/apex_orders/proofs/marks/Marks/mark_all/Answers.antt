use Rattle.apex_orders.proofs.Common.{◌≡◌, ⊎_elim, ◌∷◌, [], ℕ, Bool, List, Some, true, false, arith, ap, sym, ◌∙◌, subst, slice_get, slice_get-get_or, length, length-append, false≢true, Worker}
use Rattle.std.specs.Prelude.{get_or}
use Rattle.apex_orders.specs.Marks.{HasHashes}
use Rattle.apex_orders.proofs.Lists.{before_or_last}
use Rattle.apex_orders.proofs.marks.Marks.mark_all.Goals as goal

pub loop-j-preserved : goal.loop-j-preserved
loop-j-preserved c =
    let was = c.loop-j.invariant in
    let before = c.loop-j.self.known.items in
    let mark = c.is_known_at-is_known.result in
    let pushed = c.in_ok-push.ensures.items in
    let count = was.count in
    record {
      trial = c.is_known_at-is_known.ensures.trial;
      count = let longer = ap (λ (marks : List Bool). length marks) pushed in omega (arith, longer, count, length-append before (mark ∷ []));
      found = λ j one at marked.
          ⊎_elim
          (λ (earlier : slice_get before j ≡ Some true). was.found j one at earlier)
          (λ (last : (j ≡ length before) × (mark ≡ true)).
          (c.is_known_at-is_known.ensures.found one (ap (λ (n : ℕ). slice_get c.index-workers-k.result.found.items n) (sym (last.0 ∙ count)) ∙ at)).0 last.1)
          (before_or_last before mark j true (ap (λ (marks : List Bool). slice_get marks j) (sym pushed) ∙ marked));
      new = λ j one at unmarked has.
          ⊎_elim
          (λ (earlier : slice_get before j ≡ Some false). was.new j one at earlier has)
          (λ (last : (j ≡ length before) × (mark ≡ false)).
          absurd (false≢true (sym last.1 ∙ (c.is_known_at-is_known.ensures.found one (ap (λ (n : ℕ). slice_get c.index-workers-k.result.found.items n) (sym (last.0 ∙ count)) ∙ at)).1 has)))
          (before_or_last before mark j false (ap (λ (marks : List Bool). slice_get marks j) (sym pushed) ∙ unmarked));
    }

-- the worker whose points are marked
pub is_known_at-is_known-requires-clause-own : goal.is_known_at-is_known-requires-clause-own
is_known_at-is_known-requires-clause-own c =
    subst (HasHashes c.args.config.now) (sym c.index-workers-k.is)
    (c.requires.hashed c.args.k (get_or c.args.workers.now c.args.k c.index-workers-k.result) (slice_get-get_or c.args.workers.now c.args.k c.index-workers-k.result c.requires.index))

pub returns-clause-marks : goal.returns-clause-marks
returns-clause-marks c =
    let was = c.loop-j.invariant in
    let worker = c.index-workers-k.result in
    let here : slice_get c.args.workers.now c.args.k ≡ Some worker =
    slice_get-get_or c.args.workers.now c.args.k worker c.requires.index ∙ ap Some (sym c.index-workers-k.is) in
    let same : (other : Worker) → slice_get c.args.workers.now c.args.k ≡ Some other → worker ≡ other = λ other at.
    let both : Some worker ≡ Some other = sym here ∙ at in
    cc in
    record {
      count = λ other at.
          let count = was.count in
          let end = c.loop-j.auto.j-end in
          let past = c.loop-j-test.false in
          let whole = c.len-j-end.ensures in
          let all : length c.loop-j.self.known.items ≡ length worker.found.items = omega (arith, count, end, past, whole) in
          all ∙ ap (λ (w : Worker). length w.found.items) (same other at);
      found = λ other j one at there. was.found j one (ap (λ (w : Worker). slice_get w.found.items j) (same other at) ∙ there);
      new = λ other j one at there. was.new j one (ap (λ (w : Worker). slice_get w.found.items j) (same other at) ∙ there);
    }
