use Rattle.apex_groups.proofs.Common.{ℕ, in_group}
use Rattle.apex_groups.specs.Parts.{IsHeld}
use Rattle.apex_orders.proofs.ChoiceLemmas.{one_more}
use Rattle.apex_groups.proofs.parts.Parts.hold.Goals as goal

pub loop-p-preserved : goal.loop-p-preserved
loop-p-preserved c =
    one_more
    (λ (q : ℕ). IsHeld c.args.config.now c.args.self.now c.args.part (in_group c.args.members.now.of_partitions.items 1) (in_group c.args.members.now.of_channels.items 1) q)
    c.loop-p.p c.loop-p.invariant (c.is_held.ensures c.if-not-is_held.false)
