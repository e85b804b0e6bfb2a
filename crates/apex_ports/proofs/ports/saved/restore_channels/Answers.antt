use Rattle.apex_ports.proofs.Common.{◌≡◌, arith, length, ◌<◌, slice_index_or, slice_get-get_or, ChannelState, HasRoomFor}
use Rattle.apex_ports.specs.Packed.{packed_channel}
use Rattle.apex_ports.proofs.PackedItems.{same_items, one_read, all_read}
use Rattle.apex_ports.proofs.ports.saved.restore_channels.Goals as goal

pub loop-channel-preserved : goal.loop-channel-preserved
loop-channel-preserved g c =
    let i = c.loop-channel.channel-index in
    let within : i < length c.loop-channel.channels = omega arith in
    let item = slice_index_or c.loop-channel.channels i c.channel-item.result in
    one_read packed_channel HasRoomFor (λ (saved now : ChannelState g.row.A.Denot). now ≡ saved) c.args.channels.now c.args.reader.now i c.loop-channel.channels c.loop-channel.reader item c.restore.new.self c.restore.new.reader
    c.loop-channel.invariant (slice_get-get_or c.loop-channel.channels i c.channel-item.result within) c.restore.ensures

pub returns : goal.returns
returns g c = λ saved rest fits e.
    let all = all_read packed_channel HasRoomFor (λ (saved now : ChannelState g.row.A.Denot). now ≡ saved) c.args.channels.now c.args.reader.now c.loop-channel.channel-index c.loop-channel.channels c.loop-channel.reader (omega arith)
    c.loop-channel.invariant saved rest fits e in
    (same_items saved c.loop-channel.channels all.0, all.1)
