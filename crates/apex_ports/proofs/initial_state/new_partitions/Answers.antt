use Rattle.apex_ports.proofs.Common.{[], length, refl, ap, ◌∙◌, IsPartitionKept}
use Rattle.apex_ports.proofs.Stays.{each_at_push, length_push}
use Rattle.apex_ports.proofs.initial_state.new_partitions.Goals as goal

pub loop-p-preserved : goal.loop-p-preserved
loop-p-preserved g c =
    let push = c.in_ok-push.ensures.items in
    record {
      count = ap length push ∙ length_push c.loop-p.partitions.items _ c.loop-p.p c.loop-p.invariant.count;
      kept = rw push (each_at_push (IsPartitionKept c.args.config.now []) c.loop-p.partitions.items c.loop-p.p _ c.loop-p.invariant.count c.loop-p.invariant.kept (record {
        mode = refl;
        ports = c.in_ok-new_ports.ensures.count ∙ c.ports.ensures.count;
        created = λ id. c.in_ok-new_ports.ensures.created id;
        last = λ id. c.in_ok-new_ports.ensures.last id;
      }));
    }
