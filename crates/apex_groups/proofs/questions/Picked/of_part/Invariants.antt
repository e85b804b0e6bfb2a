use Rattle.apex_groups.proofs.Common.{ArePicked, AreOfPart}
use Rattle.apex_groups.proofs.questions.Picked.of_part.Given as goal

abbrev pub invariant-loop-index : goal.invariant-loop-index
invariant-loop-index l = record {
  picked : ArePicked l.asked l.picked;
  part : AreOfPart l.config l.parts l.scripts l.part l.picked.asked.items;
}
