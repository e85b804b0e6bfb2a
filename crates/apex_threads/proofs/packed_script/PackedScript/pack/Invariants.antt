use Rattle.std.proofs.Common.{◌≡◌, take}
use Rattle.apex_threads.proofs.packed_script.PackedScript.pack.Given as goal

abbrev pub invariant-loop-at : goal.invariant-loop-at
invariant-loop-at g l = l.packed ≡ take l.at-index l.at-items
