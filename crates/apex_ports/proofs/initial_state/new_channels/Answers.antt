use Rattle.apex_ports.proofs.Common.{[], length, ap, ◌∙◌, IsChannelKept}
use Rattle.apex_ports.proofs.Stays.{each_at_push, length_push}
use Rattle.apex_ports.proofs.initial_state.new_channels.Goals as goal

pub loop-c-preserved : goal.loop-c-preserved
loop-c-preserved g c =
    let push = c.in_ok-push.ensures.items in
    record {
      count = ap length push ∙ length_push c.loop-c.channels.items _ c.loop-c.c c.loop-c.invariant.count;
      kept = rw push (each_at_push (IsChannelKept c.args.config.now []) c.loop-c.channels.items c.loop-c.c _ c.loop-c.invariant.count c.loop-c.invariant.kept c.in_ok-new_channel.ensures);
    }
