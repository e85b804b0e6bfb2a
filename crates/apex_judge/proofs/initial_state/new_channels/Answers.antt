use Rattle.apex_judge.proofs.Common.{◌≡◌, ◌≤◌, ◌^◌, ◌-◌, ℕ, List, [], length, refl, ap, ◌∙◌, arith, each_at_push, length_push, IsChannelShown, opening}
use Rattle.apex_judge.proofs.initial_state.new_channels.Goals as goal

none_is_few : (xs : List (List ℕ)) → xs ≡ [] → length xs ≤ 2 ^ 32 - 1
none_is_few xs none = let count : length xs ≡ 0 = ap (λ (ys : List (List ℕ)). length ys) none in omega (arith, count)

pub loop-preserved : goal.loop-preserved
loop-preserved g c =
    let push = c.in_ok-push.ensures.items in
    record {
      count = ap length push ∙ length_push c.loop.channels.items _ c.loop.counter c.loop.invariant.count;
      shown = rw push (each_at_push (IsChannelShown opening) c.loop.channels.items c.loop.counter _ c.loop.invariant.count c.loop.invariant.shown (record {
        waiting = c.new.ensures;
        few = none_is_few _ c.new.ensures;
        sample = refl;
      }));
    }
