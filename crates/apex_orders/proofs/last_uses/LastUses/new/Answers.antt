use Rattle.apex_orders.proofs.Common.{◌≡◌, ◌<◌, List, length, Some, subst, rules, arith, slice_get, Call, Moment, at_index}
use Rattle.apex_orders.proofs.last_uses.LastUses.new.Goals as goal

pub loop-k-init : goal.loop-k-init
loop-k-init c d last at = record {
  named = λ k timed below here on. absurd (omega (arith, below));
  changed = λ k timed below here on. absurd (omega (arith, below));
}

pub loop-k-preserved : goal.loop-k-preserved
loop-k-preserved c =
    let script = c.args.script.now in
    let it = c.index.result.now in
    let count : c.len-calls.result ≡ length c.script.inside.calls.items = search rules in
    let within : c.loop-k.k < length c.script.inside.calls.items = omega (arith, count, c.loop-k-test.true) in
    let here : slice_get script c.loop-k.k ≡ Some it =
    subst (λ (s : List (Moment × Call)). slice_get s c.loop-k.k ≡ Some it) c.script.view_is (at_index c.script.inside.calls.items c.loop-k.k it within c.index.ensures) in
    c.add.ensures script it.0 c.loop-k.invariant here

pub returns-clause-uses : goal.returns-clause-uses
returns-clause-uses c d last at =
    let was = c.loop-k.invariant d last at in
    let count : c.len-calls.result ≡ length c.args.script.now = search rules in
    record {
      named = λ k timed below here on. was.named k timed (omega (arith, below, count, c.loop-k-test.false)) here on;
      changed = λ k timed below here on. was.changed k timed (omega (arith, below, count, c.loop-k-test.false)) here on;
    }
