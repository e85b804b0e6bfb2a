use Rattle.apex_orders.proofs.Common.{◌≡◌, [], List, ℕ, ap, length, sym, subst, arith, Has, AreAnswersBy, HasTried, HaveInOrder, PossibleReply}
use Rattle.apex_orders.proofs.rounds.Rounds.give.Goals as goal

pub returns-clause-under_way : goal.returns-clause-under_way
returns-clause-under_way c =
    let clock = c.args.clock in
    let config = c.args.config.now in
    let scripts = c.args.scripts.now in
    let was = c.requires.under_way in
    let old = c.args.self.now.current in
    let new = c.give.new.current in
    let same = c.in_ok-give.ensures.same in
    let level = was.level in
    let begun = was.begun in
    let between = c.if-self.false in
    let all : length new.orders ≡ new.points.first =
    let next = same.next in
    let first = same.first in
    let orders = ap (λ (orders : List (List ℕ)). length orders) same.orders in
    omega (arith, next, first, orders, level) in
    let all_old : length old.orders ≡ new.points.first = let orders = ap (λ (orders : List (List ℕ)). length orders) same.orders in omega (arith, all, orders) in
    record {
      first = subst (λ (orders : List (List ℕ)). Has orders []) (sym same.orders) was.first;
      valid = c.in_ok-give.ensures.valid;
      level = let first = same.first in omega (arith, all, first);
      workers = c.in_ok-give.ensures.workers;
      ports = was.ports;
      answers = subst (λ (x : List (List ℕ) × ℕ). AreAnswersBy clock config scripts c.args.asked.now x.0 x.1 c.args.self.now.answers.items) (λ i. (sym same.orders i, all_old i)) c.requires.looked;
      begun = let left = c.requires.left in omega (arith, left, all_old);
      trial = λ given. record {
        whole = same.first;
        each = c.in_ok-give.ensures.given;
        points = subst (λ (n : ℕ). HaveInOrder n new.points.first c.give.new.self.all.items) (omega (arith, between, begun)) c.in_ok-give.ensures.points;
      };
      tried = λ k below. subst (λ (x : List (List ℕ) × List PossibleReply). HasTried clock config scripts x.0 x.1 k) (λ i. (sym same.orders i, sym same.replies i)) (was.tried k below);
    }
