use Rattle.apex_orders.proofs.Common.{⊎_elim, ◌+◌, ◌<◌, ◌≤◌, length, sym, ◌∙◌, subst, arith, refl, cases_lt, order_at, IsAfter}
use Rattle.apex_orders.specs.Searching.{AreOpenOf}
use Rattle.apex_orders.proofs.AnswerLemmas.{one_more_open}
use Rattle.apex_orders.proofs.ChoiceLemmas.{one_more}
use Rattle.apex_orders.proofs.GrowthLemmas.{order_here}
use Rattle.apex_orders.proofs.KnownLemmas.{saved_here}
use Rattle.apex_orders.proofs.answer.answer_at.Goals as goal

pub restore-requires : goal.restore-requires
restore-requires c =
    let orders = c.args.current.now.orders in
    let points = c.args.current.now.points in
    (saved_here c.args.config.now c.args.scripts.now orders points points c.requires.valid.points c.args.i (order_at orders c.args.i) c.saved_at.result.now (order_here orders c.args.i c.requires.within) c.requires.past c.saved_at.ensures).configured
    ∙ sym c.requires.config

pub loop-p-init : goal.loop-p-init
loop-p-init c =
    let orders = c.args.current.now.orders in
    let points = c.args.current.now.points in
    let saved = saved_here c.args.config.now c.args.scripts.now orders points points c.requires.valid.points c.args.i (order_at orders c.args.i) c.saved_at.result.now (order_here orders c.args.i c.requires.within) c.requires.past c.saved_at.ensures in
    record {
      ready = record {
        after = subst (IsAfter c.args.config.now c.args.scripts.now (order_at orders c.args.i)) (sym c.restore.ensures.restored) saved;
        sound = c.restore.ensures.sound;
      };
      answers = c.requires.answers;
      looked = λ p below. absurd (omega (arith, below));
    }

pub loop-p-preserved : goal.loop-p-preserved
loop-p-preserved c =
    let was = c.loop-p.invariant in
    let now = c.in_ok-answer_next.ensures in
    record {
      ready = now.ready;
      answers = now.answers;
      looked =
          one_more (AreOpenOf c.args.clock c.args.config.now c.args.scripts.now c.args.asked.now c.args.current.now.orders (c.args.i + 1) c.answer_next.new.answers.items) c.loop-p.p
          (λ p below q one at of. now.still q (was.looked p below q one at of))
          now.looked;
    }

pub returns-clause-answers : goal.returns-clause-answers
returns-clause-answers c =
    let clock = c.args.clock in
    let config = c.args.config.now in
    let scripts = c.args.scripts.now in
    let asked = c.args.asked.now in
    let orders = c.args.current.now.orders in
    let i = c.args.i in
    let answers = c.loop-p.answers.items in
    let ended = c.loop-p.invariant in
    record {
      found = ended.answers.found;
      unanswered = λ q one at none.
          ⊎_elim
          (λ (within : one.partition < length config.partitions).
          ended.looked one.partition (omega (arith, within, c.loop-p-test.false, c.loop-p.auto.p-end)) q one at refl one at none)
          (λ (past : length config.partitions ≤ one.partition).
          one_more_open clock config scripts asked orders i answers ended.answers q one at
          (λ order here answered.
          let within = answered.given.within in
          let same = answered.answers.partition in
          absurd (omega (arith, past, within, same)))
          one at none)
          (cases_lt one.partition (length config.partitions));
    }
