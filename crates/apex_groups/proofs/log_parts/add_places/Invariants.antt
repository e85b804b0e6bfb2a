use Rattle.apex_groups.proofs.Common.{◌≡◌, ◌++◌, take, filter, in_group}
use Rattle.apex_groups.proofs.log_parts.add_places.Given as goal

abbrev pub invariant-loop-place : goal.invariant-loop-place
invariant-loop-place l =
    l.all.items ≡ l.fn.all.items ++ filter (λ place. in_group l.groups.of_partitions.items l.group place.partition) (take l.place-index l.places)
