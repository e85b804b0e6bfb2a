use Rattle.apex_orders.proofs.Common.{◌≡◌, ℕ, ◌+◌, sym, subst, arith, AreAnswersBy}
use Rattle.apex_orders.proofs.answer.find_answers.Goals as goal

pub loop-k-init : goal.loop-k-init
loop-k-init c =
    let none : c.args.from + 0 ≡ c.args.from = omega arith in
    record {
      config = c.requires.config;
      answers = subst (λ (n : ℕ). AreAnswersBy c.args.clock c.args.config.now c.args.scripts.now c.args.asked.now c.args.current.now.orders n c.args.answers.now.items) (sym none) c.requires.answers;
    }

pub loop-k-preserved : goal.loop-k-preserved
loop-k-preserved c =
    let one_more : (c.args.from + c.loop-k.k) + 1 ≡ c.args.from + (c.loop-k.k + 1) = omega arith in
    record {
      config = c.in_ok-answer_at.ensures.config;
      answers = subst (λ (n : ℕ). AreAnswersBy c.args.clock c.args.config.now c.args.scripts.now c.args.asked.now c.args.current.now.orders n c.answer_at.new.answers.items) one_more c.in_ok-answer_at.ensures.answers;
    }

pub returns-clause-answers : goal.returns-clause-answers
returns-clause-answers c =
    let all : c.loop-k.k ≡ c.args.count = omega (arith, c.loop-k-test.false, c.loop-k.auto.k-end) in
    subst (λ (n : ℕ). AreAnswersBy c.args.clock c.args.config.now c.args.scripts.now c.args.asked.now c.args.current.now.orders (c.args.from + n) c.loop-k.answers.items) all c.loop-k.invariant.answers
