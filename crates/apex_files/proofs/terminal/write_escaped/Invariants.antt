use Rattle.std.proofs.Common.{◌≡◌, ◌++◌, List, ℕ, length}
use Rattle.apex_files.specs.Terminal.{escaped, escaped_after}
use Rattle.apex_files.proofs.TerminalLemmas.{Owes}
use Rattle.apex_files.proofs.terminal.write_escaped.Given as goal

abbrev pub invariant-loop-byte : goal.invariant-loop-byte
invariant-loop-byte g l =
    (plain : List ℕ) × (l.waiting ≡ plain ++ l.rest)
    × Owes (g.W.Write.contents l.fn.output) (g.W.Write.contents l.output) (escaped l.text) (plain ++ escaped_after l.before l.rest)

abbrev pub decreases-loop-byte : goal.decreases-loop-byte
decreases-loop-byte g l = length l.rest
