use Rattle.apex_orders.proofs.Common.{◌≡◌, map, take}
use Rattle.apex_orders.specs.Searching.{asked_hash}
use Rattle.apex_orders.proofs.asked.asked_hashes.Given as goal

abbrev pub invariant-loop-one : goal.invariant-loop-one
invariant-loop-one l = l.hashes ≡ map asked_hash (take l.one-index l.asked)
