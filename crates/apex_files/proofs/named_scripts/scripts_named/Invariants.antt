use Rattle.std.proofs.Common.{◌≡◌, length, take, vec_len}
use Rattle.apex_files.specs.Scripts.{AreScripts}
use Rattle.apex_files.proofs.ArgumentLemmas.{AreFlags}
use Rattle.apex_files.proofs.named_scripts.scripts_named.Given as goal

abbrev pub invariant-loop-argument : goal.invariant-loop-argument
invariant-loop-argument g l = record {
  scripts : AreScripts (g.O.Opener.bytes_at l.opener) l.config (take l.argument-index l.arguments) l.scripts.items;
  flags : AreFlags l.config (take l.argument-index l.arguments) l.named.items;
  count : vec_len l.named ≡ length l.config.partitions;
}
