use Rattle.apex_ports.proofs.Common.{◌≡◌, ℕ, ◌<◌, ◌^◌}
use Rattle.apex_ports.specs.Packed.{packed_number}
use Rattle.apex_ports.proofs.PackedItems.{AreReading}
use Rattle.apex_ports.proofs.ports.saved.restore_calls.Given as goal

abbrev pub invariant-loop-count : goal.invariant-loop-count
invariant-loop-count l = AreReading packed_number (λ (_ : ℕ) n. n < 2 ^ 64) (λ saved now. now ≡ saved) l.initial.calls l.initial.reader l.count-index l.calls l.reader
