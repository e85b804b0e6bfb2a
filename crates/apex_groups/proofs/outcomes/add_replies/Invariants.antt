use Rattle.apex_groups.proofs.Common.{◌≡◌, ◌++◌, filter, take}
use Rattle.apex_groups.specs.Parts.{is_of_part}
use Rattle.apex_groups.proofs.outcomes.add_replies.Given as goal

abbrev pub invariant-loop-one : goal.invariant-loop-one
invariant-loop-one l =
    l.all.items ≡ l.fn.all.items
    ++ filter (is_of_part l.config l.parts l.scripts l.part) (take l.one-index l.found)
