use Rattle.std.proofs.Common.{◌≡◌, ◌++◌, drop}
use Rattle.apex_refusals.specs.PlaceLines.{line_ends}
use Rattle.apex_refusals.proofs.line_of.ends_of_lines.Given as goal

abbrev pub invariant-loop-offset : goal.invariant-loop-offset
invariant-loop-offset l = l.ends.items ++ line_ends l.offset (drop l.offset l.text) ≡ line_ends 0 l.text
