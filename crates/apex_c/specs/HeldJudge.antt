-- The judge behind a pointer: none, or what a box of it owns.
use base.Fml.{Fml, ftrue}
use base.Stored.{Coded}
use denote.RawPtr.{Ptr}
use Rattle.std.specs.Prelude.{Option, None, Some}
use Rattle.std.specs.Coded.{coded_option}
use Rattle.std.specs.Box.Ownership.{box_owns}
use Rattle.std.specs.Global.{Global}
use Rattle.std_heap.specs.contracts.Global as heap
use Rattle.std_heap.specs.contracts.GlobalAllocator.TheImpl.{ghosts}
use Rattle.apex_judge.specs.JudgeView.{JudgeView}
use Rattle.apex_judge.specs.contracts.judge.Judge.{the_row}

-- the judge of a handle that is open
abbrev pub JudgeHeld : Type 0
JudgeHeld = Option JudgeView

abbrev pub judge_coded : Coded JudgeHeld
judge_coded = coded_option (the_row heap.the_row ghosts).coded

abbrev pub judge_owns : Global → Ptr → JudgeHeld → Fml
judge_owns alloc at None = ftrue
judge_owns alloc at (Some judge) = box_owns (ghosts.dealloc_token alloc) (the_row heap.the_row ghosts) at judge
