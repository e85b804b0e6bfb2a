use Rattle.dekarino_drawings.proofs.Common.{[], List, length, sym, ap, ◌∙◌, subst, ChannelCalls, IsFollowed}
use Rattle.apex_ports.specs.Kept.{EachAt}
use Rattle.apex_ports.proofs.Stays.{length_push, each_at_push}
use Rattle.dekarino_drawings.proofs.channels.new_channels.Goals as goal

pub loop-preserved : goal.loop-preserved
loop-preserved c =
    let config = c.args.config.now in
    let was = c.loop.invariant in
    let all = each_at_push (IsFollowed config []) c.loop.channels.items c.loop.counter c.new.result was.count was.each (c.new.ensures config c.loop.counter) in
    record {
      count = ap (λ (xs : List ChannelCalls). length xs) c.in_ok-push.ensures.items ∙ length_push c.loop.channels.items c.new.result c.loop.counter was.count;
      each = subst (λ (xs : List ChannelCalls). EachAt (IsFollowed config []) xs) (sym c.in_ok-push.ensures.items) all;
    }
