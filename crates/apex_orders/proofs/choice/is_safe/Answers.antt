use Rattle.apex_orders.proofs.Common.{subst, IsNextUse, is_tried}
use Rattle.apex_orders.proofs.ChoiceLemmas.{safe_alone, safe_on}
use Rattle.apex_orders.proofs.choice.is_safe.Goals as goal

pub returns-in-NoChannel : goal.returns-in-NoChannel
returns-in-NoChannel c holds =
    let a = c.args in
    safe_alone a.ports.now.config a.scripts.now a.ports.now.history (is_tried a.tried.now) a.p
    (subst (IsNextUse a.ports.now.config a.scripts.now a.ports.now.history a.p) c.in-NoChannel.is c.requires.next)

pub returns-in-Channel : goal.returns-in-Channel
returns-in-Channel c holds =
    let a = c.args in
    safe_on a.ports.now.config a.scripts.now a.ports.now.history (is_tried a.tried.now) a.p c.in-Channel.channel c.in-Channel.is_change
    (subst (IsNextUse a.ports.now.config a.scripts.now a.ports.now.history a.p) c.in-Channel.is c.requires.next) (c.is_quiet_outside.ensures holds)
