use Rattle.apex_orders.proofs.Common.{ap, arith, length}
use Rattle.apex_orders.proofs.rounds.Rounds.next.Goals as goal

pub returns-clause-further : goal.returns-clause-further
returns-clause-further g c none =
    let first = c.in_ok-look.ensures.first in
    let still = c.in_ok-give.ensures.first in
    let given = c.in_ok-give.ensures.given in
    let same = ap (λ (current : _). current.points.first) c.in_ok-try_level.ensures.current in
    let end = c.in_ok-end_level.ensures.first in
    omega (arith, first, still, given, same, end)

pub returns-clause-within : goal.returns-clause-within
returns-clause-within g c none =
    let bound = c.in_default.ensures.within in
    let points = c.in_ok-give.ensures.under_way.valid.points in
    let level = points.level in
    let next = points.next in
    let orders = ap (λ (orders : _). length orders) c.in_ok-give.ensures.orders in
    let same = ap (λ (current : _). current.points.first) c.in_ok-try_level.ensures.current in
    let end = c.in_ok-end_level.ensures.first in
    omega (arith, bound, level, next, orders, same, end)
