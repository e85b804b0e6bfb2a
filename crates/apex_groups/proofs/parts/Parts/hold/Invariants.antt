use Rattle.apex_groups.proofs.Common.{◌≡◌, ◌<◌, ℕ, true, group_of, in_group}
use Rattle.apex_groups.specs.Parts.{IsHeld}
use Rattle.apex_groups.proofs.parts.Parts.hold.Given as goal

abbrev pub invariant-loop-p : goal.invariant-loop-p
invariant-loop-p l =
    (q : ℕ) → q < l.p → IsHeld l.config l.self l.part (in_group l.members.of_partitions.items 1) (in_group l.members.of_channels.items 1) q

abbrev pub invariant-loop-c : goal.invariant-loop-c
invariant-loop-c l =
    (d : ℕ) → d < l.c → group_of l.self.of_channels.items d ≡ l.part → in_group l.members.of_channels.items 1 d ≡ true
