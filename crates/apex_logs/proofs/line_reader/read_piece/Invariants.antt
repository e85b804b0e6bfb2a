use Rattle.apex_logs.proofs.Common.{◌≡◌, length, Keeps}
use Rattle.apex_logs.proofs.line_reader.read_piece.Given as goal

abbrev pub invariant-loop : goal.invariant-loop
invariant-loop g l = record {
  kept : Keeps (g.R.Read.remaining l.fn.reader) (g.R.Read.remaining l.reader);
  full : length l.piece.items ≡ 65536;
}
