use Rattle.apex_log_orders.proofs.Common.{ap, subst, sym, ◌∙◌, take_all, logs_about, Logs, HasNoOrder}
use Rattle.apex_log_orders.proofs.AboutLemmas.{no_order_about}
use Rattle.apex_log_orders.proofs.by_channel.logs_about.Goals as goal

pub returns-clause-enough : goal.returns-clause-enough
returns-clause-enough c =
    let config = c.args.config.now in
    let logs = c.args.logs.now in
    let all = c.loop-log.invariant ∙ ap (logs_about config c.args.channel) (take_all c.loop-log.log-index logs c.loop-log-test.false) in
    subst (λ (part : Logs). HasNoOrder config part → HasNoOrder config logs) (sym all) (no_order_about config c.args.channel logs)
