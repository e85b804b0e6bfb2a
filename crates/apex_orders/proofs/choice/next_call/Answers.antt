use Rattle.apex_orders.proofs.Common.{◌≡◌, ◌<◌, ◌-◌, ◌^◌, List, length, Some, subst, rules, arith, slice_get, Call, Moment, at_index}
use Rattle.apex_orders.proofs.ChoiceLemmas.{next_at}
use Rattle.apex_orders.proofs.choice.next_call.Goals as goal

pub returns : goal.returns
returns c =
    let scripts = c.args.scripts.now in
    let p = c.args.p in
    let timed = c.index.result.now in
    let within : p < length scripts = omega arith in
    let here = at_index scripts p c.index-scripts-p.result within c.index-scripts-p.is in
    let count : c.len.result ≡ length c.script.inside.calls.items = search rules in
    let few : c.calls-index.result < 2 ^ 64 - 1 = omega (arith, c.if-index-len.false, c.len.type_inv) in
    let inside : c.calls-index.result < length c.script.inside.calls.items = omega (arith, c.if-index-len.false, count) in
    let at : slice_get c.index-scripts-p.result c.calls-index.result ≡ Some timed =
    subst (λ (s : List (Moment × Call)). slice_get s c.calls-index.result ≡ Some timed) c.script.view_is (at_index c.script.inside.calls.items c.calls-index.result timed inside c.index.ensures) in
    next_at scripts c.args.ports.now.history p c.index-scripts-p.result c.calls-index.result timed here c.calls-index.ensures few at
