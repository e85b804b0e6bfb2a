use Rattle.apex_logs.proofs.Common.{◌≡◌, false, drop, is_closed}
use Rattle.apex_logs.proofs.log_line.is_closed.Given as goal

abbrev pub invariant-loop-byte : goal.invariant-loop-byte
invariant-loop-byte l = is_closed l.closed (drop l.byte-index l.note) ≡ is_closed false l.note
