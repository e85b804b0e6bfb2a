use Rattle.std.proofs.Common.{◌≤◌, ◌-◌, length}
use Rattle.apex_ports.proofs.message_ring.blank_bytes.Given as goal

abbrev pub invariant-loop-bytes : goal.invariant-loop-bytes
invariant-loop-bytes g l = length l.bytes.items ≤ l.count

abbrev pub decreases-loop-bytes : goal.decreases-loop-bytes
decreases-loop-bytes g l = l.count - length l.bytes.items
