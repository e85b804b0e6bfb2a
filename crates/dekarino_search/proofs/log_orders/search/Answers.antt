use Rattle.apex_log_orders.specs.LogOrders.{entries_at}
use Rattle.dekarino_search.proofs.AnswerLemmas.{order_found, none_found, nothing_found, says_order, says_none}
use Rattle.dekarino_search.proofs.log_orders.search.Goals as goal
use Rattle.dekarino_search.proofs.log_orders.search.Goals.{in-Order, in-NoOrder, in-Undecided}

pub returns : goal.returns
returns g c =
    let files = g.O.Opener.bytes_at c.args.files.now in
    let arguments = c.args.arguments.now in
    let config = c.in_ok-config.config in
    let logs = c.in_ok-all.all.logs.items in
    let are = c.in_ok-all.ensures in
    let known = c.in_ok-config.ensures in
    let read = files c.args.config.now in
    let answer = c.in_ok-places.field-0 in
    let says = c.in_ok-places.ensures.answer in
    let same = c.as_mut_slice-logs.ensures.value in
    elim c.match-branch-4.branch [
      | in-Order w ↦ rw w.answer-is (order_found files c.args.time_outs arguments config logs are read (entries_at logs w.in-Order.places.items) known (says_order config logs c.as_mut_slice-logs.result.now same answer says w.in-Order.places w.in-Order.is))
      | in-NoOrder w ↦ rw w.answer-is (none_found files c.args.time_outs arguments config logs are read known (says_none config logs c.as_mut_slice-logs.result.now same answer says w.in-NoOrder.longest w.in-NoOrder.is))
      | in-Undecided w ↦ rw w.answer-is (nothing_found files c.args.time_outs arguments w.bound.result read)
    ]
