use Rattle.apex_board.proofs.Common.{◌≡◌, length, EachAt, IsFresh}
use Rattle.apex_board.proofs.records.Records.new.Given as goal

abbrev pub invariant-loop-c : goal.invariant-loop-c
invariant-loop-c g l = record {
  count : length l.journals.items ≡ l.c;
  fresh : EachAt (IsFresh l.config) l.journals.items;
}
