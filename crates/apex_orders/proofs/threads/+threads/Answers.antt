use Rattle.std.proofs.Common.{rules, ◌≡◌, ap, arith, ◌-◌, length, length-append, get_or}
use Rattle.std.proofs.lemmas.List.{get_or_default}
use Rattle.std.specs.Fork.{ChangesAt}
use Rattle.apex_orders.proofs.Lists.{with_last}
use Rattle.apex_orders.proofs.threads.+threads.Goals as goal

pub run_all-returns : goal.run_all-returns
run_all-returns g t c =
    let cut = c.split_at_mut-before.ensures in
    let front = c.split_at_mut-before.result.0.now in
    let back = c.split_at_mut-before.result.1.now in
    let items = c.args.items.now in
    let some = c.if-count-eq0.false in
    let one : length back ≡ 1 = omega (arith, ap length cut.value, length-append front back, cut.front_len, some) in
    let d = c.index-rest-0.result in
    record {
      each = with_last (ChangesAt g.F.Fn c.args.f.now) (length items - 1) items front c.run_last.new.before back (get_or back 0 d) c.run_last.new.item
          cut.value cut.front_len c.run_last.auto.before one
          (λ e. get_or_default back 0 e d (omega (arith, one)))
          (λ i e within. (c.run_last.ensures.before.each i e within).1)
          c.run_last.ensures.item;
    }

pub run_both-returns-clause-item : goal.run_both-returns-clause-item
run_both-returns-clause-item g t c = let change = c.join_mut.ensures.0.met.1 in record { argument = change.argument; argument_is = change.argument_is; after_call = change.after_call; call = change.call; left = let left = change.left in search rules }
