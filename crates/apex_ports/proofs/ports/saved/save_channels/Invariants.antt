use Rattle.apex_ports.proofs.Common.{◌≡◌, ◌++◌, take, IsPackable}
use Rattle.std.specs.List.{flat_map}
use Rattle.apex_ports.specs.Packed.{packed_channel}
use Rattle.apex_ports.proofs.PackedItems.{EachBelow}
use Rattle.apex_ports.proofs.ports.saved.save_channels.Given as goal

abbrev pub invariant-loop-channel : goal.invariant-loop-channel
invariant-loop-channel g l = record {
  saved : l.bytes.items ≡ l.initial.bytes.items ++ flat_map packed_channel (take l.channel-index l.channels);
  packable : EachBelow l.channel-index IsPackable l.channels;
}
