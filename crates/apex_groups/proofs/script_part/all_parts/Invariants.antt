use Rattle.apex_groups.proofs.Common.{◌≡◌, length}
use Rattle.apex_groups.specs.PartSearches.{AreParts}
use Rattle.apex_groups.proofs.script_part.all_parts.Given as goal

abbrev pub invariant-loop-part : goal.invariant-loop-part
invariant-loop-part l = record {
  count : length l.all.items ≡ l.part;
  parts : AreParts l.config l.scripts l.all.items;
}
