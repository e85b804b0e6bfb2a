use Rattle.apex_logs.proofs.Common.{◌+◌, ◌-◌, length, Consumes, text_left, HasNoLineFeed}
use Rattle.apex_logs.specs.declared.line_reader.TheConstants.{LINE_LIMIT}
use Rattle.apex_logs.proofs.line_reader.LineReaderLineSource.next.Given as goal

abbrev pub invariant-loop-self : goal.invariant-loop-self
invariant-loop-self g l = record {
  read : Consumes (text_left g.R.Read.remaining l.fn.self) (text_left g.R.Read.remaining l.self) l.line.items;
  none : HasNoLineFeed l.line.items;
}

abbrev pub decreases-loop-self : goal.decreases-loop-self
decreases-loop-self g l = LINE_LIMIT + 2 - length l.line.items
