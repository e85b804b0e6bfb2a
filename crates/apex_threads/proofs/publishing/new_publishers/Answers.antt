use Rattle.apex_threads.proofs.Common.{[], length, ap, ◌∙◌, IsPublished, AddsChannel}
use Rattle.apex_ports.proofs.Stays.{each_at_push, length_push}
use Rattle.apex_threads.proofs.publishing.new_publishers.Goals as goal

pub loop-c-preserved : goal.loop-c-preserved
loop-c-preserved g c =
    let adds : AddsChannel c.args.config.now c.loop-c.c c.loop-c.publishers c.add_channel.new.publishers = c.in-Ok.ensures in
    let before = c.loop-c.publishers in
    record {
      count = ap length adds.2 ∙ length_push before _ c.loop-c.c c.loop-c.invariant.count;
      each = rw adds.2 (each_at_push (IsPublished c.args.config.now []) before c.loop-c.c adds.0 c.loop-c.invariant.count c.loop-c.invariant.each adds.1);
    }
