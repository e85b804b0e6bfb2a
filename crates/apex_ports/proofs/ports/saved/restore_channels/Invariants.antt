use Rattle.apex_ports.proofs.Common.{◌≡◌, HasRoomFor}
use Rattle.apex_ports.specs.Packed.{packed_channel}
use Rattle.apex_ports.proofs.PackedItems.{AreReading}
use Rattle.apex_ports.proofs.ports.saved.restore_channels.Given as goal

abbrev pub invariant-loop-channel : goal.invariant-loop-channel
invariant-loop-channel g l = AreReading packed_channel HasRoomFor (λ saved now. now ≡ saved) l.initial.channels l.initial.reader l.channel-index l.channels l.reader
