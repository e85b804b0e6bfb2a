use Rattle.apex_groups.proofs.Common.{◌≡◌, ◌≤◌, ℕ, Some, port_of, Port, in_group}
use Rattle.apex_groups.specs.Parts.{IsPortHeld}
use Rattle.apex_groups.proofs.parts.Parts.is_held.Given as goal

abbrev pub invariant-loop-index : goal.invariant-loop-index
invariant-loop-index l =
    (id : ℕ) (port : Port) → id ≤ l.index → port_of l.config l.p id ≡ Some port
    → IsPortHeld l.self l.part (in_group l.members.of_partitions.items 1) (in_group l.members.of_channels.items 1) l.p id port
