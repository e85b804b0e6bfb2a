use Rattle.std.proofs.Common.{◌≡◌, ◌+◌, ◌≤◌, length}
use Rattle.std.specs.Str.Lines.{lines}
use Rattle.apex_texts.specs.Lines.{items_from}
use Rattle.apex_texts.specs.Script.{timed_call_at, script_of}
use Rattle.apex_texts.proofs.LineLemmas.{with_front}
use Rattle.apex_files.proofs.packed_scripts.read_packed_script.Given as goal

abbrev pub invariant-loop-line : goal.invariant-loop-line
invariant-loop-line l = record {
  read : with_front l.script (items_from timed_call_at (l.number + 1) (lines l.rest)) ≡ script_of l.text;
  bound : l.number + length l.rest ≤ length l.text;
}

abbrev pub decreases-loop-line : goal.decreases-loop-line
decreases-loop-line l = length l.rest
