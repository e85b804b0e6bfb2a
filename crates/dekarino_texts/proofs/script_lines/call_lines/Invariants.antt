use Rattle.dekarino_texts.proofs.Common.{◌≡◌, ◌+◌, ◌≤◌, ◌++◌, length, lines, numbers_from, call_numbers}
use Rattle.dekarino_texts.proofs.script_lines.call_lines.Given as goal

abbrev pub invariant-loop-line : goal.invariant-loop-line
invariant-loop-line l = record {
  read : l.numbers.items ++ numbers_from (l.number + 1) (lines l.rest) ≡ call_numbers l.script;
  bound : l.number + length l.rest ≤ length l.script;
}

abbrev pub decreases-loop-line : goal.decreases-loop-line
decreases-loop-line l = length l.rest
