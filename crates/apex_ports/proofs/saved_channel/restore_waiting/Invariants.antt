use Rattle.apex_ports.proofs.PackedItems.{AreMessagesRead}
use Rattle.apex_ports.proofs.saved_channel.restore_waiting.Given as goal

abbrev pub invariant-loop : goal.invariant-loop
invariant-loop g l = AreMessagesRead l.initial.waiting.capacity l.initial.waiting.size l.count l.initial.reader l.counter l.waiting l.reader
