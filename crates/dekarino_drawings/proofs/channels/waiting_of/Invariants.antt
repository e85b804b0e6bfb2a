use Rattle.dekarino_drawings.proofs.Common.{◌≡◌, ◌++◌, drop, flat_map, waits_in}
use Rattle.dekarino_drawings.proofs.channels.waiting_of.Given as goal

abbrev pub invariant-loop-channel : goal.invariant-loop-channel
invariant-loop-channel l = l.waiting.items ++ flat_map waits_in (drop l.channel-index l.channels) ≡ flat_map waits_in l.channels
