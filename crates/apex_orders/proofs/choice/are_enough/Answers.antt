use Rattle.apex_orders.proofs.Common.{◌≡◌, true, sym, ◌∙◌, arith, false≢true, IsSafeToTry, is_tried}
use Rattle.apex_orders.proofs.ChoiceLemmas.{enough_of, one_more}
use Rattle.apex_orders.proofs.choice.are_enough.Goals.{then-is_tried+else-not-is_safe, else-is_tried}
use Rattle.apex_orders.proofs.choice.are_enough.Goals as goal

pub loop-p-preserved : goal.loop-p-preserved
loop-p-preserved c =
    let tried = c.args.tried.now in
    let scripts = c.args.scripts.now in
    let h = c.args.ports.now.history in
    let was = c.loop-p.invariant in
    record {
      some = λ is. elim c.if-is_tried.branch [
        | then-is_tried+else-not-is_safe w ↦ (c.loop-p.p, sym c.is_tried.ensures ∙ w.if-is_tried.true, (w.is_safe.ensures w.if-not-is_safe.false).some)
        | else-is_tried w ↦ was.some (sym w.some-is ∙ is)
      ];
      safe = one_more (λ p. is_tried tried p ≡ true → IsSafeToTry c.args.ports.now.config scripts h (is_tried tried) p) c.loop-p.p was.safe (λ own. elim c.if-is_tried.branch [
        | then-is_tried+else-not-is_safe w ↦ w.is_safe.ensures w.if-not-is_safe.false
        | else-is_tried w ↦ absurd (false≢true (sym w.if-is_tried.false ∙ (c.is_tried.ensures ∙ own)))
      ]);
    }

pub returns : goal.returns
returns c holds =
    let count = c.requires.nexts.count in
    enough_of c.args.ports.now.config c.args.scripts.now c.args.ports.now.history (is_tried c.args.tried.now) (c.loop-p.invariant.some holds)
    (λ p within own. c.loop-p.invariant.safe p (omega (arith, count, within, c.loop-p-test.false)) own)
