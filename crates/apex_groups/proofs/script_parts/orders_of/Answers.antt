use Rattle.apex_groups.proofs.Common.{◌≡◌, ℕ, Bool, [], length, ◌∙◌, subst, replicate, Scripts, AreExchanged, in_group}
use Rattle.apex_groups.proofs.Exchanged.{exchanged_back, of_ok, put_in}
use Rattle.apex_groups.proofs.script_parts.orders_of.Goals as goal

pub returns-clause-scripts : goal.returns-clause-scripts
returns-clause-scripts g c =
    exchanged_back (in_group c.args.groups.now.of_partitions.items c.args.group) c.args.scripts.now c.as_mut_slice-part.result.now c.exchange.new.one c.exchange.new.other c.exchange-2.new.one
    c.exchange.ensures.one c.exchange.ensures.other c.exchange-2.ensures.one

pub returns-clause-answers : goal.returns-clause-answers
returns-clause-answers g c =
    let config = c.args.config.now in
    let scripts = c.args.scripts.now in
    let part = c.exchange.new.other in
    let inside : ℕ → Bool = in_group c.args.groups.now.of_partitions.items c.args.group in
    let none : c.as_mut_slice-part.result.now ≡ replicate (length config.partitions) [] =
    c.as_mut_slice-part.ensures.value ∙ (c.in_ok-part.ensures ∙ (λ i. replicate (c.partitions.ensures.count i) [])) in
    let put : AreExchanged inside (replicate (length config.partitions) []) scripts part = subst (λ (own : Scripts). AreExchanged inside own scripts part) none c.exchange.ensures.other in
    of_ok _ _ c.orders_giving-found.result
    (λ answers are. record { part = part; is = put_in inside scripts (length config.partitions) part put; each = are })
    c.orders_giving-found.ensures
