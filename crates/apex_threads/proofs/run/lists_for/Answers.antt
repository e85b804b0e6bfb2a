use Rattle.apex_threads.proofs.Common.{◌<◌, List, length, sym, subst, arith, Reply, AreReady}
use Rattle.apex_threads.proofs.Ready.{ready_more}
use Rattle.apex_threads.proofs.run.lists_for.Goals as goal

pub loop-script-preserved : goal.loop-script-preserved
loop-script-preserved g c =
    let scripts = c.args.scripts.now in
    let before = c.loop-script.lists in
    let len = c.push_reserved.ensures.len in
    let capacity = c.push_reserved.ensures.capacity in
    let count = c.loop-script.invariant.count in
    let room = c.loop-script.invariant.room in
    let within : length before.items < length scripts = omega (arith, before.ok.0) in
    record {
      ready = subst (λ (lists : List (List Reply)). AreReady scripts lists) (sym c.push_reserved.ensures.items)
          (ready_more scripts before.items c.in_ok-list.list c.loop-script.invariant.ready within c.in_ok-list.ensures);
      count = omega arith;
      room = omega arith;
    }
