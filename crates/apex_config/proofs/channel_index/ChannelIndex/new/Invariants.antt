use Rattle.std.proofs.Common.{take}
use Rattle.apex_config.specs.Numbers.{AreNumbers}
use Rattle.apex_config.proofs.channel_index.ChannelIndex.new.Given as goal

abbrev pub invariant-loop-number : goal.invariant-loop-number
invariant-loop-number l = AreNumbers l.numbers (take l.number l.channels)
