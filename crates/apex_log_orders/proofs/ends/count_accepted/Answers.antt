use Rattle.apex_log_orders.proofs.Common.{◌≡◌, ◌<◌, if◌then◌else◌, length, Some, sym, ap, ◌∙◌, arith, slice_get, History, at_index}
use Rattle.apex_log_orders.proofs.EndCounts.{accepted_more}
use Rattle.apex_log_orders.proofs.ends.count_accepted.Goals as goal
use Rattle.apex_log_orders.proofs.ends.count_accepted.Goals.{then-is_accepted_on, else-is_accepted_on}

pub loop-i-preserved : goal.loop-i-preserved
loop-i-preserved c =
    let log = c.args.log.now in
    let items = c.log.inside.entries.items in
    let i = c.loop-i.i in
    let e = c.index.result.now in
    let test = c.loop-i-test.true in
    let all = c.requires in
    let viewed = ap (λ (es : History). length es) c.log.view_is in
    let within : i < length items = omega (arith, test, all, viewed) in
    let here : slice_get log i ≡ Some e = ap (λ (es : History). slice_get es i) (sym c.log.view_is) ∙ at_index items i e within c.index.ensures in
    let more = accepted_more c.args.config.now c.args.channel log i e here in
    let before = c.loop-i.invariant.count in
    let few = c.loop-i.invariant.few in
    elim c.if-is_accepted_on.branch [
      | then-is_accepted_on w ↦
          let one = c.is_accepted_on.ensures ∙ ap (λ b. if b then 1 else 0) w.if-is_accepted_on.true in
          let is = w.count-is in
          record { count = omega (arith, more, before, one, is); few = omega (arith, few, is) }
      | else-is_accepted_on w ↦
          let none = c.is_accepted_on.ensures ∙ ap (λ b. if b then 1 else 0) w.if-is_accepted_on.false in
          let is = w.count-is in
          record { count = omega (arith, more, before, none, is); few = omega (arith, few, is) }
    ]
