use Rattle.apex_orders.proofs.Common.{Option, IfSome, [], IsGivenUp, HasNothingLeft, refl, subst}
use Rattle.apex_orders.specs.declared.orders_fault.OrdersFault.{OrdersFault}
use Rattle.apex_orders.specs.declared.outcomes.Outcomes.{Outcomes}
use Rattle.apex_orders.proofs.AnswerLemmas.{ended, when_none}
use Rattle.apex_orders.proofs.Completing.{are_replies, are_ends}
use Rattle.apex_orders.proofs.EndLemmas.{not_of_memory, undecided_of}
use Rattle.apex_orders.proofs.SearchLemmas.{none_of}
use Rattle.apex_orders.proofs.outcome_search.OutcomeSearch.run.Goals as goal

pub returns-in-Some : goal.returns-in-Some
returns-in-Some g c =
    let config = c.args.config.now in
    let scripts = c.args.scripts.now in
    let can_stop = g.P.Progress.CanStop in
    let ran = c.in_ok-given_up.ensures in
    let why = subst (λ (given_up : Option OrdersFault). IfSome given_up (IsGivenUp c.args.clock can_stop config scripts c.args.bound)) c.in-Some.is ran.given_up in
    record {
      valid = record { under_way = ran.under_way };
      undecided = undecided_of Outcomes c.args.clock can_stop config scripts c.partitions-partitions.ensures.valid c.args.bound c.in-Some.fault why;
      memory = not_of_memory c.args.clock can_stop config scripts c.args.bound c.in-Some.fault why;
    }

pub returns : goal.returns
returns g c =
    let config = c.args.config.now in
    let scripts = c.args.scripts.now in
    let valid = c.partitions-partitions.ensures.valid in
    let ran = c.in_ok-given_up.ensures in
    let found = c.into_found-found.ensures in
    let none = none_of c.in_ok-given_up.given_up c.in_default.not-Some in
    let all = ended c.args.clock config scripts [] c.run.new.self ran.under_way c.into_found-found.result (λ whole. when_none c.in_ok-given_up.given_up (HasNothingLeft c.run.new.self) none ran.over)
    found.orders found.replies found.answers in
    let searched = all.all found.given_up refl in
    let ends = c.in_ok-ends.ensures.ends in
    record {
      replies = are_replies config scripts valid c.args.clock c.into_found-found.result.orders c.into_found-found.result.replies.items searched;
      ends = are_ends config scripts valid c.args.clock c.into_found-found.result.orders c.into_found-found.result.replies.items searched c.in_ok-ends.ends.items ends.each ends.every;
    }
