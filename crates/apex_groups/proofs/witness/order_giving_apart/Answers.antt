use Rattle.apex_groups.proofs.Common.{◌++◌, Option, ap, ◌∙◌, option_to_list, Found}
use Rattle.apex_groups.proofs.AnswerLemmas.{only_answer}
use Rattle.apex_groups.proofs.witness.order_giving_apart.Goals as goal

pub returns-clause-found : goal.returns-clause-found
returns-clause-found g c =
    let left = c.pop.new.self.items in
    (only_answer c.args.clock g.P.Progress.CanStop c.args.config.now c.args.scripts.now c.args.bound c.args.asked.now c.from_ref-asked.result.now c.in_ok-answers.answers.items left c.in-Some.answer
    c.from_ref-asked.ensures.value c.in_ok-answers.ensures.answers (c.pop.ensures.items ∙ ap (λ (o : Option Found). left ++ option_to_list o) c.in-Some.is)).found

pub returns-clause-never : goal.returns-clause-never
returns-clause-never g c =
    let left = c.pop.new.self.items in
    (only_answer c.args.clock g.P.Progress.CanStop c.args.config.now c.args.scripts.now c.args.bound c.args.asked.now c.from_ref-asked.result.now c.in_ok-answers.answers.items left c.in-Some.answer
    c.from_ref-asked.ensures.value c.in_ok-answers.ensures.answers (c.pop.ensures.items ∙ ap (λ (o : Option Found). left ++ option_to_list o) c.in-Some.is)).never

pub returns-clause-undecided : goal.returns-clause-undecided
returns-clause-undecided g c =
    let left = c.pop.new.self.items in
    (only_answer c.args.clock g.P.Progress.CanStop c.args.config.now c.args.scripts.now c.args.bound c.args.asked.now c.from_ref-asked.result.now c.in_ok-answers.answers.items left c.in-Some.answer
    c.from_ref-asked.ensures.value c.in_ok-answers.ensures.answers (c.pop.ensures.items ∙ ap (λ (o : Option Found). left ++ option_to_list o) c.in-Some.is)).undecided
