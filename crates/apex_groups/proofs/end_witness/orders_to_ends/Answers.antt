use Rattle.apex_groups.proofs.EndLemmas.{are_end_answers}
use Rattle.apex_groups.proofs.end_witness.orders_to_ends.Goals as goal

pub returns-clause-answers : goal.returns-clause-answers
returns-clause-answers g c =
    are_end_answers c.args.clock c.args.config.now c.args.scripts.now c.in-Ok.found.ends.items c.as_slice.result.now c.args.asked.now c.in_ok-answers.answers.items c.as_slice.ensures.value
    c.in-Ok.ensures.ends c.in_ok-answers.ensures
