use Rattle.std.proofs.Common.{refl, arith}
use Rattle.apex_orders.proofs.hash_index.up_to_equal.Goals as goal

pub loop-at-init : goal.loop-at-init
loop-at-init c = record {
  within = c.requires.first.within;
  own = λ k other is at. c.requires.first.own k other is at;
  rest = λ k past below at. absurd (let before = c.requires.first.rest k c.args.hash below at refl in omega (arith, past, before));
}
