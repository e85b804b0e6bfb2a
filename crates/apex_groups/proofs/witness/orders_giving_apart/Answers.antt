use Rattle.apex_groups.proofs.Common.{sym, subst, Scripts, AreKnown}
use Rattle.apex_groups.proofs.witness.orders_giving_apart.Goals as goal

pub with_missing-requires-clause-known : goal.with_missing-requires-clause-known
with_missing-requires-clause-known g c κs within =
    subst (λ (own : Scripts). AreKnown c.args.clock g.P.Progress.CanStop c.args.config.now own c.args.bound c.args.asked.now c.in_ok-answers.answers.items) (sym c.in_ok-answers.ensures.same)
    c.in_ok-answers.ensures.known
