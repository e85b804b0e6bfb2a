use Rattle.std.proofs.Common.{◌≡◌, length, take, vec_len}
use Rattle.apex_files.proofs.ArgumentLemmas.{AreFlags}
use Rattle.apex_files.specs.Scripts.{AreScripts}
use Rattle.dekarino_search.proofs.scripts.read_scripts.Given as goal

abbrev pub invariant-loop-index : goal.invariant-loop-index
invariant-loop-index g l = record {
  scripts : AreScripts (g.O.Opener.bytes_at l.opener) l.config (take l.index l.arguments) l.all.scripts.items;
  lines : length l.all.lines.items ≡ length l.config.partitions;
  flags : AreFlags l.config (take l.index l.arguments) l.named.items;
  count : vec_len l.named ≡ length l.config.partitions;
}
