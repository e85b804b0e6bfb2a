use Rattle.std.proofs.Common.{◌≡◌, ◌<◌, ◌≤◌, ◌-◌, true, false, length}
use Rattle.std.specs.Option.{option_copied}
use Rattle.apex_refusals.specs.PlaceLines.{line_ends, first_lines, beginning_has}
use Rattle.apex_refusals.proofs.line_of.line_of.Given as goal

abbrev pub invariant-loop-with : goal.invariant-loop-with
invariant-loop-with l = record {
  ends : l.ends.items ≡ line_ends 0 l.text;
  order : l.without < l.with;
  within : l.with ≤ length (line_ends 0 l.text);
  with : beginning_has (first_lines l.with l.text) l.part (option_copied l.key) ≡ true;
  without : 1 ≤ l.without → beginning_has (first_lines l.without l.text) l.part (option_copied l.key) ≡ false;
}

abbrev pub decreases-loop-with : goal.decreases-loop-with
decreases-loop-with l = l.with - l.without
