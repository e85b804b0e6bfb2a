use Rattle.apex_judge.proofs.Common.{ℕ, ◌-◌, Option, Some, None, ap, rules, arith, unwrap_or}
use Rattle.apex_judge.proofs.TallySteps.{counted_less}
use Rattle.apex_judge.proofs.tally.uncount.Goals as goal

pub returns-then-times-le1 : goal.returns-then-times-le1
returns-then-times-le1 g c =
    let few = c.if-times-le1.true in
    let is = c.times.ensures in
    counted_less c.args.bytes.now c.args.tally.now c.remove.new.self None c.remove.ensures.updates (omega (arith, few, is))

pub returns-in-Some : goal.returns-in-Some
returns-in-Some g c =
    let less = c.in-Some.times.now - 1 in
    counted_less c.args.bytes.now c.args.tally.now (c.get_mut.follows.lender less) (Some less) ((c.get_mut.follows.holds less).3 (search rules))
    (ap (λ (found : Option ℕ). unwrap_or found 0 - 1) c.in-Some.ensures.value)
