use Rattle.apex_orders.proofs.Common.{◌≡◌, ◌≤◌, ◌-◌, ◌^◌, ⊎_elim, ℕ, List, [], ◌∷◌, length, Some, sym, ap, subst, arith, length-append, slice_get, Call, Moment, at_index, LastUses, AreLastUses, script_of}
use Rattle.apex_orders.proofs.ChoiceLemmas.{one_more, script_here}
use Rattle.apex_orders.proofs.Lists.{before_or_last}
use Rattle.apex_orders.proofs.last_uses.last_uses.Goals as goal

pub loop-p-preserved : goal.loop-p-preserved
loop-p-preserved c =
    let config = c.args.config.now in
    let scripts = c.args.scripts.now in
    let was = c.loop-p.invariant in
    let items = c.loop-p.uses.items in
    let one = c.in_ok-one.one in
    let script = c.index-scripts-p.result in
    let own : script_of scripts c.loop-p.p ≡ script = script_here scripts c.loop-p.p script (at_index scripts c.loop-p.p script c.loop-p-test.true c.index-scripts-p.is) in
    let pushed = c.in_ok-push.ensures.items in
    let longer = ap (λ (all : List LastUses). length all) pushed in
    let count = was.count in
    record {
      count = omega (arith, count, longer, length-append items (one ∷ []));
      each = λ p it at.
          ⊎_elim
          (λ (before : slice_get items p ≡ Some it). was.each p it before)
          (λ (last : (p ≡ length items) × (one ≡ it)).
          let here : c.loop-p.p ≡ p = omega (arith, count, last.0) in
          subst (λ (x : ℕ × LastUses). AreLastUses config x.0 (script_of scripts x.0) x.1) (λ i. (here i, last.1 i))
          (subst (λ (calls : List (Moment × Call)). AreLastUses config c.loop-p.p calls one) (sym own) c.in_ok-one.ensures.uses))
          (before_or_last items one p it (subst (λ (all : List LastUses). slice_get all p ≡ Some it) pushed at));
      short = one_more (λ p. length (script_of scripts p) ≤ 2 ^ 64 - 1) c.loop-p.p was.short
          (subst (λ (calls : List (Moment × Call)). length calls ≤ 2 ^ 64 - 1) (sym own) c.new.ensures.short);
    }
