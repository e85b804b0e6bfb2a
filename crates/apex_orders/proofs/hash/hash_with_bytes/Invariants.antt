use Rattle.apex_orders.proofs.Common.{◌≡◌, length, mix, bytes_below}
use Rattle.apex_orders.proofs.hash.hash_with_bytes.Given as goal

abbrev pub invariant-loop-i : goal.invariant-loop-i
invariant-loop-i l = l.hash ≡ bytes_below l.bytes (mix l.before (length l.bytes)) l.i
