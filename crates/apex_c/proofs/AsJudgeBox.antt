-- What is held and its parts own what a box of the judge owns.
use mir.Syntax.{impl, tnil, dnil}
use mathlib.Core.List.{[]}
use denote.Signature.{Slot, plain}
use Rattle.std.proofs.BoxSteps.Form.{Bx}
use Rattle.std_heap.specs.contracts.Global as Heap
use Rattle.std_heap.specs.contracts.GlobalAllocator.TheImpl.{ghosts, dict}
use Rattle.std_heap.proofs.Global.TheLaws as heap
use Rattle.apex_judge.specs.contracts.judge.Judge as Judge
use Rattle.apex_judge.proofs.judge.Judge.TheLaws as judge
use Rattle.apex_c.specs.contracts.parts.Parts as Parts
use Rattle.apex_c.specs.contracts.held_judge.HeldJudge as Held

abbrev pub E : Bx
E = record { row = Judge.the_row Heap.the_row ghosts; laws = judge.the_row_laws Heap.the_row ghosts heap.the_row_laws; al = record { row = Heap.the_row; laws = heap.the_row_laws; g = ghosts; d = dict; drops = impl [] tnil dnil } }

abbrev pub FromParts : Slot 0
FromParts = plain (λ _. Parts.the_row (Judge.the_row Heap.the_row ghosts) Heap.the_row ghosts)

abbrev pub FromHeld : Slot 0
FromHeld = plain (λ _. Held.the_row)
