use Rattle.apex_groups.proofs.Common.{◌<◌, ℕ, group_of}
use Rattle.apex_groups.proofs.parts.have_less.Given as goal

abbrev pub invariant-loop-number : goal.invariant-loop-number
invariant-loop-number l = (k : ℕ) → k < l.number-index → group_of l.numbers k < l.count
