use Rattle.apex_groups.proofs.Common.{◌≡◌, ◌<◌, ℕ, [], length, if◌then◌else◌, in_group, list_of}
use Rattle.apex_groups.proofs.script_parts.scripts_of.Given as goal

abbrev pub invariant-loop-p : goal.invariant-loop-p
invariant-loop-p l = record {
  count : length l.part.items ≡ l.p;
  copied : (p : ℕ) → p < l.p → list_of l.part.items p ≡ (if in_group l.groups.of_partitions.items l.group p then list_of l.scripts p else []);
}
