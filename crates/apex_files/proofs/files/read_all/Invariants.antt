use Rattle.std.proofs.Common.{◌≤◌, length}
use Rattle.std.specs.Io.KnownBytes.{Consumes}
use Rattle.apex_files.specs.declared.files.TheConstants.{FILE_LIMIT}
use Rattle.apex_files.proofs.files.read_all.Given as goal

abbrev pub invariant-loop : goal.invariant-loop
invariant-loop g l = record {
  read : Consumes (g.R.Read.remaining l.initial.reader) (g.R.Read.remaining l.reader) l.bytes.items;
  within : length l.bytes.items ≤ FILE_LIMIT;
}
