use Rattle.apex_orders.proofs.Common.{◌≡◌, ℕ, ◌≤◌, ◌<◌, List, length, Some, refl, subst, arith, slice_get, nat_tests, slice_get_read, LastUse}
use Rattle.apex_orders.proofs.UseLemmas.{quiet_from}
use Rattle.apex_orders.proofs.last_uses.LastUses.are_over.Goals as goal

pub returns-else-count-made : goal.returns-else-count-made
returns-else-count-made c config p script uses holds k timed past at =
    let last = c.in-Some.last.now in
    let items = c.deref.result.now in
    let test = c.in-Some.ensures.lookup.0 in
    let within : c.args.channel < length items = grind (arith, nat_tests, test) in
    let here : slice_get c.args.self.now.channels.items c.args.channel ≡ Some last =
    subst (λ (all : List LastUse). slice_get all c.args.channel ≡ Some last) c.deref.ensures.value
    (slice_get_read items (length items) c.args.channel last refl within (c.in-Some.ensures.lookup.4 (omega arith) last)) in
    quiet_from config p script c.args.channel c.args.named c.args.made last (uses c.args.channel last here)
    (subst (λ (n : ℕ). n ≤ c.args.made) c.count.ensures c.if-count-made.false) k timed past at
