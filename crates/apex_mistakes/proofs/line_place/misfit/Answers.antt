use Rattle.apex_mistakes.proofs.Common.{◌≡◌, drop, ap, ◌∙◌, arith, words_of, misfit}
use Rattle.apex_mistakes.proofs.PlaceLemmas.{misfit-nothing}
use Rattle.apex_mistakes.proofs.line_place.misfit.Goals as goal

pub returns-in_default-clause-exact : goal.returns-in_default-clause-exact
returns-in_default-clause-exact c =
    let left = drop c.loop-before.before c.args.parameters.now in
    let none : misfit left (words_of c.loop-before.rest.now) ≡ 0 = ap (misfit left) c.in_default.ensures.word ∙ misfit-nothing left in
    omega (arith, none, c.loop-before.invariant)
