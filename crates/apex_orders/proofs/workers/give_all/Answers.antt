use Rattle.apex_orders.proofs.Common.{◌≡◌, ◌≢◌, ⊎_elim, ℕ, ◌+◌, ◌-◌, ◌<◌, ◌≤◌, List, length, length-set, sym, ◌∙◌, subst, arith, slice_get, Some, slice_get-set_cases, slice_get_within, take, take_all, Bool, Configuration, Scripts, HasContinued, HasMade, HaveInOrder, IsUnderTrial, PossibleReply, Worker}
use Rattle.apex_orders.specs.declared.search.Search.{Search}
use Rattle.std.proofs.lemmas.List.{take_more_set}
use Rattle.apex_orders.proofs.Lists.{set_elsewhere}
use Rattle.apex_orders.proofs.InOrder.{in_order_push}
use Rattle.apex_orders.proofs.workers.give_all.Goals as goal

moved_on : (new first share left total : ℕ) → new ≡ first + share → share ≤ left → first + left ≡ total → new + (left - share) ≡ total
moved_on new first share left total is fits all = omega (arith, is, fits, all)

-- what was given before stays so when more is given
still_given : (clock : Bool) (config : Configuration) (scripts : Scripts) (old new : Search) (worker : Worker) → new.orders ≡ old.orders → new.replies ≡ old.replies → new.points.calls ≡ old.points.calls
    → IsUnderTrial clock config scripts old worker → IsUnderTrial clock config scripts new worker
still_given clock config scripts old new worker orders replies calls was = record {
  valid = was.valid;
  base = was.base ∙ sym orders;
  made = subst (λ (n : ℕ). HasMade config scripts n worker) (sym calls) was.made;
  left = was.left;
  tried = subst (λ (known : List PossibleReply). HasContinued clock config scripts known worker) (sym replies) was.tried;
}

pub loop-k-preserved : goal.loop-k-preserved
loop-k-preserved c =
    let was = c.loop-k.invariant in
    let now = c.in_ok-give.ensures in
    let workers = c.loop-k.workers in
    let k = c.loop-k.k in
    let left = c.loop-k.left in
    let share = c.share_of-share.result in
    let worker = c.give.new.worker in
    let fits = c.share_of-share.ensures.within in
    let first = now.first in
    let begun = was.low in
    let many = was.many in
    let within : k < length workers = omega (arith, c.loop-k-test.true) in
    let count = length-set workers k worker in
    let start = c.loop-k.current.points.first in
    record {
      valid = now.valid;
      orders = now.orders ∙ was.orders;
      replies = now.replies ∙ was.replies;
      next = now.next ∙ was.next;
      calls = now.calls ∙ was.calls;
      first = moved_on c.give.new.self.points.first start share left (c.args.current.now.points.first + c.args.count) first fits was.first;
      low = omega (arith, first, begun);
      last = λ end. let all = c.share_of-share.ensures.last (omega (arith, end, count, within)) in omega (arith, all);
      many = count ∙ was.many;
      rest = λ j other past at. was.rest j other (omega (arith, past)) (sym (set_elsewhere workers k worker j (λ same. absurd (omega (arith, past, same)))) ∙ at);
      given = λ j other below at.
          ⊎_elim
          (λ (own : (j ≡ k) × (other ≡ worker)).
          subst (IsUnderTrial c.args.clock c.args.config.now c.args.scripts.now c.give.new.self) (sym own.1) (record {
            valid = now.worker;
            base = now.base;
            made = λ n inside. now.made n inside ∙ sym now.calls;
            left = now.left;
            tried = λ n below. let none = now.tried in absurd (omega (arith, below, none));
          }))
          (λ (another : (j ≢ k) × (slice_get workers j ≡ Some other)). let apart = another.0 in still_given c.args.clock c.args.config.now c.args.scripts.now c.loop-k.current c.give.new.self other now.orders now.replies now.calls (was.given j other (omega (arith, below, apart)) another.1))
          (slice_get-set_cases workers k worker j other at);
      points = subst (HaveInOrder c.args.current.now.points.first c.give.new.self.points.first) (sym (take_more_set workers k worker within))
          (in_order_push c.args.current.now.points.first start c.give.new.self.points.first (take k workers) worker was.points (record { first = now.range.first; last = now.range.last ∙ sym now.first }));
    }

pub returns-clause-given : goal.returns-clause-given
returns-clause-given c k worker at =
    let within = slice_get_within c.loop-k.workers k worker at in
    c.loop-k.invariant.given k worker (omega (arith, within, c.loop-k-test.false)) at

pub returns-clause-points : goal.returns-clause-points
returns-clause-points c =
    subst (HaveInOrder c.args.current.now.points.first c.loop-k.current.points.first) (take_all c.loop-k.k c.loop-k.workers (omega (arith, c.loop-k-test.false))) c.loop-k.invariant.points

pub returns-clause-same : goal.returns-clause-same
returns-clause-same c =
    let was = c.loop-k.invariant in
    record {
      orders = was.orders;
      replies = was.replies;
      next = was.next;
      calls = was.calls;
      first =
          let end = c.loop-k-test.false in
          let most = c.loop-k.auto.k-end in
          let many = was.many in
          let none = was.last (omega (arith, end, most, many)) in
          let first = was.first in
          let all = c.requires.all in
          let next = was.next in
          omega (arith, none, first, all, next);
    }
