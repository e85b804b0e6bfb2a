use Rattle.apex_orders.proofs.Common.{◌≡◌, ◌+◌, ◌-◌, ℕ, length, subst, arith, AreAnswersBy}
use Rattle.apex_orders.proofs.rounds.Rounds.look.Goals as goal

pub returns-clause-under_way : goal.returns-clause-under_way
returns-clause-under_way c =
    let was = c.requires in
    let answers = c.in_ok-find_answers.ensures.answers in
    let between = c.if-self-first.false in
    record {
      first = was.first;
      valid = was.valid;
      level = was.level;
      workers = was.workers;
      ports = c.in_ok-find_answers.ensures.config;
      answers = record {
        found = answers.found;
        unanswered = λ q one at here k below. answers.unanswered q one at here k (omega (arith, below));
      };
      begun = was.begun;
      trial = λ given. absurd (omega (arith, given, between));
      tried = was.tried;
    }

pub returns-clause-looked : goal.returns-clause-looked
returns-clause-looked c =
    let answers = c.in_ok-find_answers.ensures.answers in
    let points = c.requires.valid.points in
    let level = points.level in
    let next = points.next in
    let first = c.args.self.now.current.points.first in
    let orders = c.args.self.now.current.orders in
    let len = c.len.ensures in
    let all : first + (c.len.result - first) ≡ length orders = omega (arith, level, next, len) in
    subst (λ (n : ℕ). AreAnswersBy c.args.clock c.args.config.now c.args.scripts.now c.args.asked.now orders n c.find_answers.new.answers.items) all answers
