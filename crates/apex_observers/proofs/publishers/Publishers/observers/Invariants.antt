use Rattle.std.proofs.Common.{◌≡◌, take}
use Rattle.apex_observers.specs.Channels.{sampling_of}
use Rattle.apex_observers.proofs.publishers.Publishers.observers.Given as goal

abbrev pub invariant-loop-channel : goal.invariant-loop-channel
invariant-loop-channel g l = (l.self-inside.list.items ≡ l.fn.self) × (l.observers.items ≡ sampling_of (take l.channel l.fn.self))
