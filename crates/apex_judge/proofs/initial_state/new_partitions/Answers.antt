use Rattle.apex_judge.proofs.Common.{length, refl, ap, ◌∙◌, each_at_push, length_push, IsPartitionShown, opening}
use Rattle.apex_judge.proofs.initial_state.new_partitions.Goals as goal

pub loop-p-preserved : goal.loop-p-preserved
loop-p-preserved g c =
    let push = c.in_ok-push.ensures.items in
    record {
      count = ap length push ∙ length_push c.loop-p.partitions.items _ c.loop-p.p c.loop-p.invariant.count;
      shown = rw push (each_at_push (IsPartitionShown c.args.config.now opening) c.loop-p.partitions.items c.loop-p.p _ c.loop-p.invariant.count c.loop-p.invariant.shown (record {
        mode = refl;
        mode_doubted = refl;
        ports = c.in_ok-new_ports.ensures.count ∙ c.ports.ensures.count;
        created = λ id known. c.in_ok-new_ports.ensures.created id;
        last = λ id known. c.in_ok-new_ports.ensures.last id;
        port_doubted = λ id known. c.in_ok-new_ports.ensures.doubted id;
      }));
    }
