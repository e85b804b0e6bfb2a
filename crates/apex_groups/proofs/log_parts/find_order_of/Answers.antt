use Rattle.apex_groups.proofs.Common.{◌≡◌, ℕ, Bool, [], length, ◌∙◌, subst, replicate, Logs, IsAnswer, AreExchanged, in_group}
use Rattle.apex_groups.specs.LogParts.{IsAnswerOf}
use Rattle.apex_groups.proofs.Exchanged.{exchanged_back, put_in, of_ok}
use Rattle.apex_groups.proofs.log_parts.find_order_of.Goals as goal

pub returns-clause-logs : goal.returns-clause-logs
returns-clause-logs g c =
    exchanged_back (in_group c.args.groups.now.of_partitions.items c.args.group) c.args.logs.now c.as_mut_slice-part.result.now c.exchange.new.one c.exchange.new.other c.exchange-2.new.one
    c.exchange.ensures.one c.exchange.ensures.other c.exchange-2.ensures.one

pub returns-clause-answer : goal.returns-clause-answer
returns-clause-answer g c =
    let config = c.args.config.now in
    let logs = c.args.logs.now in
    let part = c.exchange.new.other in
    let inside : ℕ → Bool = in_group c.args.groups.now.of_partitions.items c.args.group in
    let none : c.as_mut_slice-part.result.now ≡ replicate (length config.partitions) [] =
    c.as_mut_slice-part.ensures.value ∙ (c.in_ok-part.ensures ∙ (λ i. replicate (c.partitions.ensures.count i) [])) in
    let put : AreExchanged inside (replicate (length config.partitions) []) logs part = subst (λ (own : Logs). AreExchanged inside own logs part) none c.exchange.ensures.other in
    of_ok (IsAnswer config part) (IsAnswerOf config inside logs) c.find_order_with_progress-answer.result
    (λ answer holds. (part, put_in inside logs (length config.partitions) part put, holds)) c.find_order_with_progress-answer.ensures
