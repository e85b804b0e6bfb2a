use Rattle.apex_groups.proofs.Common.{ℕ, List, subst, in_group, Has}
use Rattle.apex_groups.proofs.PartLemmas.{ends_of}
use Rattle.apex_groups.proofs.outcomes.add_part.Goals as goal

pub add_ends-requires-clause-ends : goal.add_ends-requires-clause-ends
add_ends-requires-clause-ends c = λ order has.
    ends_of c.args.clock c.args.config.now (in_group c.args.members.now.of_partitions.items 1) c.args.scripts.now c.args.found c.requires.found order
    (subst (λ (ends : List (List ℕ)). Has ends order) c.as_slice-ends.ensures.value has)
