use Rattle.apex_mistakes.proofs.Common.{◌≡◌, ◌+◌, drop, words_of, misfit}
use Rattle.apex_mistakes.proofs.line_place.misfit.Given as goal

abbrev pub invariant-loop-before : goal.invariant-loop-before
invariant-loop-before l = l.before + misfit (drop l.before l.parameters) (words_of l.rest) ≡ misfit l.parameters (words_of l.words)
