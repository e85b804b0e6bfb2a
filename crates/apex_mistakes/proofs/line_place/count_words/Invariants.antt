use Rattle.apex_mistakes.proofs.Common.{◌≡◌, ◌+◌, ◌≤◌, length, words_of}
use Rattle.apex_mistakes.proofs.line_place.count_words.Given as goal

abbrev pub invariant-loop-after : goal.invariant-loop-after
invariant-loop-after l = record {
  count : l.count + length (words_of l.rest) ≡ length (words_of l.line);
  bound : l.count + length l.rest ≤ length l.line;
}

abbrev pub decreases-loop-after : goal.decreases-loop-after
decreases-loop-after l = length l.rest
