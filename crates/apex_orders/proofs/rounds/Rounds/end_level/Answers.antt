use Rattle.apex_orders.proofs.Common.{◌≡◌, ⊎_elim, ◌<◌, ◌≤◌, [], List, ℕ, length, sym, ◌∙◌, subst, arith, cases_lt, HasTried, Includes, Keeps, PossibleReply}
use Rattle.apex_orders.proofs.SearchLemmas.{has_tried_kept, keeps_within, unanswered_kept}
use Rattle.apex_orders.proofs.rounds.Rounds.end_level.Goals as goal

pub end_level-requires-clause-all : goal.end_level-requires-clause-all
end_level-requires-clause-all g c =
    let whole = (c.requires.under_way.trial c.requires.given).whole in
    let level = c.in_ok-finish.ensures.level in
    let first = level.first in
    let next = level.next in
    omega (arith, whole, first, next)

pub returns-clause-under_way : goal.returns-clause-under_way
returns-clause-under_way g c =
    let clock = c.args.clock in
    let config = c.args.config.now in
    let scripts = c.args.scripts.now in
    let was = c.requires.under_way in
    let trial = was.trial c.requires.given in
    let finished = c.in_ok-finish.ensures in
    let ended = c.end_level.ensures in
    let old = c.args.self.now.current in
    let new = c.end_level.new.self in
    let keeps = subst (Keeps old.orders) (sym ended.orders) finished.later.orders in
    let includes = subst (Includes old.replies) (sym ended.replies) finished.later.replies in
    let first : new.points.first ≡ old.points.first = ended.first ∙ finished.level.first in
    let whole : old.points.first ≤ length old.orders = let level = was.valid.points.level in let next = was.valid.points.next in omega (arith, level, next) in
    record {
      first = keeps_within old.orders new.orders was.first.0 [] keeps was.first.1;
      valid = ended.valid;
      level = ended.level;
      workers = finished.workers;
      ports = was.ports;
      answers = record {
        found = was.answers.found;
        unanswered = λ q one at here k below.
            unanswered_kept config scripts clock one old.orders new.orders k keeps (omega (arith, below, first, whole)) (was.answers.unanswered q one at here k (omega (arith, below, first)));
      };
      begun = omega arith;
      trial = λ given. absurd (omega (arith, given));
      tried = λ k below.
          ⊎_elim
          (λ (before : k < c.args.self.now.first).
          let begun = was.begun in
          has_tried_kept config scripts clock old.orders new.orders old.replies new.replies k keeps includes (omega (arith, before, begun, whole)) (was.tried k before))
          (λ (behind : c.args.self.now.first ≤ k).
          subst (λ (x : List (List ℕ) × List PossibleReply). HasTried clock config scripts x.0 x.1 k) (λ i. (sym ended.orders i, sym ended.replies i))
          (finished.tried c.args.self.now.first old.points.first trial.points k behind (omega (arith, below, first))))
          (cases_lt k c.args.self.now.first);
    }
