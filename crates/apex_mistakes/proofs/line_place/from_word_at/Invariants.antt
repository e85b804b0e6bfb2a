use Rattle.apex_mistakes.proofs.Common.{◌≡◌, ◌-◌, from_word_at}
use Rattle.apex_mistakes.proofs.line_place.from_word_at.Given as goal

abbrev pub invariant-loop-skipped : goal.invariant-loop-skipped
invariant-loop-skipped l = from_word_at (l.before - l.skipped) l.rest ≡ from_word_at l.before l.fn.line
