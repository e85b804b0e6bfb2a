use Rattle.apex_groups.proofs.Common.{◌<◌, ℕ}
use Rattle.apex_groups.specs.Parts.{part_of_port}
use Rattle.apex_groups.proofs.parts.Parts.are_below.Given as goal

abbrev pub invariant-loop-one : goal.invariant-loop-one
invariant-loop-one l = (p id : ℕ) → p < l.one-index → part_of_port l.self p id < l.self.count
