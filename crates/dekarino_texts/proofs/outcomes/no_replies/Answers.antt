use Rattle.std.proofs.Common.{[], ◌≡◌}
use Rattle.apex_ports.proofs.Stays.{each_at_push, length_push}
use Rattle.dekarino_texts.proofs.outcomes.no_replies.Goals as goal

pub loop-preserved : goal.loop-preserved
loop-preserved c =
    let before = c.loop.found.items in
    rw c.in_ok-push.ensures.items record {
      count = length_push before c.new.result c.loop.counter c.loop.invariant.count;
      each = each_at_push (λ _ own. own.items ≡ []) before c.loop.counter c.new.result c.loop.invariant.count c.loop.invariant.each c.new.ensures.items;
    }
