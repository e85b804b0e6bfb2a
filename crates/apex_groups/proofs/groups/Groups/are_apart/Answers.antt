use Rattle.std.proofs.Common.{arith}
use Rattle.apex_groups.proofs.GroupLemmas.{groups_apart}
use Rattle.apex_groups.proofs.groups.Groups.are_apart.Goals as goal

pub returns : goal.returns
returns c holds =
    let past = c.loop-p-test.false in
    let count = c.partitions-p-end.ensures.count in
    groups_apart c.args.config.now c.args.self.now.of_partitions.items c.args.self.now.of_channels.items
    (λ p within. c.loop-p.invariant p (omega (arith, past, count, within)))
