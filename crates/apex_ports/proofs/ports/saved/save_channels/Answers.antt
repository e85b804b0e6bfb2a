use Rattle.apex_ports.proofs.Common.{arith, slice_get_within, IsPackable}
use Rattle.apex_ports.specs.Packed.{packed_channel}
use Rattle.apex_ports.proofs.Lookups.{at_index}
use Rattle.apex_ports.proofs.PackedItems.{one_written, below_one_more}
use Rattle.apex_ports.proofs.ports.saved.save_channels.Goals as goal

pub loop-channel-preserved : goal.loop-channel-preserved
loop-channel-preserved g c =
    let all = c.args.channels.now in
    let i = c.loop-channel.channel-index in
    let item = c.channel-item.result in
    let at = at_index all i item c.loop-channel-test.true c.channel-item.is in
    record {
      saved = one_written packed_channel all i item c.args.bytes.now.items c.loop-channel.bytes.items c.save.new.bytes.items at c.loop-channel.invariant.saved c.in_ok-save.ensures.saved;
      packable = below_one_more IsPackable all i item at c.in_ok-save.ensures.packable c.loop-channel.invariant.packable;
    }

pub returns-clause-packable : goal.returns-clause-packable
returns-clause-packable g c = λ k x at. c.loop-channel.invariant.packable k x (let within = slice_get_within c.args.channels.now k x at in omega arith) at
