use Rattle.std.proofs.Common.{◌≡◌, length, take, vec_len}
use Rattle.apex_files.proofs.ArgumentLemmas.{AreFlags}
use Rattle.dekarino_search.specs.OwnLogs.{AreOwnLogs}
use Rattle.dekarino_search.proofs.own_logs.read_own_logs.Given as goal

abbrev pub invariant-loop-index : goal.invariant-loop-index
invariant-loop-index g l = record {
  logs : AreOwnLogs (g.O.Opener.bytes_at l.opener) l.time_outs l.config (take l.index l.arguments) l.all.logs.items;
  files : length l.all.files.items ≡ length l.config.partitions;
  flags : AreFlags l.config (take l.index l.arguments) l.named.items;
  count : vec_len l.named ≡ length l.config.partitions;
}
