use Rattle.std.proofs.Common.{◌≡◌, ℕ, length, refl, ap, ◌∙◌}
use Rattle.apex_ports.proofs.Stays.{each_at_push, length_push}
use Rattle.apex_ports.proofs.initial_state.new_counts.Goals as goal

pub loop-preserved : goal.loop-preserved
loop-preserved g c =
    let push = c.in_ok-push.ensures.items in
    record {
      count = ap length push ∙ length_push c.loop.calls.items 0 c.loop.counter c.loop.invariant.count;
      none = rw push (each_at_push (λ (_ : ℕ) (count : ℕ). count ≡ 0) c.loop.calls.items c.loop.counter 0 c.loop.invariant.count c.loop.invariant.none refl);
    }
