use Rattle.apex_orders.proofs.Common.{◌≡◌, length, refl, rules, arith, waiting_on}
use Rattle.apex_orders.proofs.Lists.{same_items}
use Rattle.apex_orders.proofs.same_state.has_same_messages.Goals as goal

pub returns : goal.returns
returns g c =
    let mine = waiting_on c.args.a.now.config c.args.c c.args.a.now.history in
    let theirs = waiting_on c.args.a.now.config c.args.c c.args.b.now.history in
    let count : length mine ≡ length theirs = search rules in
    (λ _. same_items mine theirs count (λ k within. c.loop-i.invariant k (omega arith)), λ _. refl)
