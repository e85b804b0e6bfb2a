use Rattle.apex_board.proofs.Common.{◌≡◌, ℕ, length, Option, None, refl, ap, ◌∙◌, arith, each_at_push, length_push}
use Rattle.apex_types.specs.declared.sample.Sample.{Sample}
use Rattle.apex_board.proofs.samples.new_samples.Goals as goal

pub loop-preserved : goal.loop-preserved
loop-preserved g c =
    let push = c.in_ok-push.ensures.items in
    record {
      count = ap length push ∙ length_push c.loop.samples.items None c.loop.counter c.loop.invariant.count;
      none = rw push (each_at_push (λ (_ : ℕ) (sample : Option Sample). sample ≡ None) c.loop.samples.items c.loop.counter None c.loop.invariant.count c.loop.invariant.none refl);
    }

pub returns : goal.returns
returns g c =
    let count = c.loop.invariant.count in
    let channels = c.channels-end.ensures.count in
    record {
      all = omega (arith, count, channels);
      each = c.loop.invariant.none;
    }
