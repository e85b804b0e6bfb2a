use Rattle.std.proofs.Common.{◌≡◌, take}
use Rattle.apex_module.proofs.config.copies_of_channels.Given as goal

abbrev pub invariant-loop-channel : goal.invariant-loop-channel
invariant-loop-channel l = l.made.items ≡ take l.channel-index l.channels
