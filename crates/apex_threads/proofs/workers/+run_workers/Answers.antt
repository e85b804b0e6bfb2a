use Rattle.apex_threads.proofs.Common.{rules, ◌≡◌, ◌∙◌, ◌+◌, IfOk, IfErr, subst, sym, length, ◌<◌, vec_len, vec_capacity, arith, AreReady}
use denote.Param.Send.{sendable}
use Rattle.apex_threads.specs.Held.{NamesHeldCall}
use Rattle.apex_threads.proofs.Ready.{ready_front, ready_last, partition_within, one_more_reply, same_room, first_of}
use Rattle.apex_threads.proofs.workers.+run_workers.Goals as goal
use Rattle.apex_threads.proofs.workers.+run_workers.Goals.{in-Ok, in-Err}

pub spawn_with-started-requires-clause-runs : goal.spawn_with-started-requires-clause-runs
spawn_with-started-requires-clause-runs g t c κs within =
    let scripts = c.args.scripts.now in
    let front = c.pop.new.self in
    let ready = subst (AreReady scripts) c.in-Some.ensures.items c.requires.ready in
    let count : length front.items ≡ c.len-partition.result = sym (c.len-partition.ensures ∙ front.ok.0) in
    let within_scripts : length front.items < length scripts = partition_within scripts front.items c.in-Some.replies ready in (
      omega arith,
      (ready_last scripts front.items c.in-Some.replies ready, search (rules, sendable)),
    )

pub run_workers-lower-requires-clause-ready : goal.run_workers-lower-requires-clause-ready
run_workers-lower-requires-clause-ready g t c κs within =
    ready_front c.args.scripts.now c.pop.new.self.items c.in-Some.replies (subst (AreReady c.args.scripts.now) c.in-Some.ensures.items c.requires.ready)

pub returns-clause-count : goal.returns-clause-count
returns-clause-count g t c =
    let one_less : vec_len c.args.empty ≡ vec_len c.pop.new.self + 1 = omega (arith, c.in-Some.ensures.len) in
    subst (λ n. IfOk c.with_next.result (λ replies. vec_len replies ≡ n)) (sym one_less)
    (one_more_reply c.run_workers-lower.result c.match-started.next c.with_next.result (vec_len c.pop.new.self) c.run_workers-lower.ensures.count c.with_next.ensures.all)

pub returns-clause-capacity : goal.returns-clause-capacity
returns-clause-capacity g t c =
    same_room c.run_workers-lower.result c.match-started.next c.with_next.result (vec_capacity c.args.all) c.run_workers-lower.ensures.capacity c.with_next.ensures.all

pub returns-clause-held : goal.returns-clause-held
returns-clause-held g t c =
    let Names = NamesHeldCall (g.G.Gate.may_refuse c.args.gate.now) c.args.scripts.now in
    let next : IfErr c.match-started.next Names = elim c.match-started.branch [
      | in-Ok w ↦
          subst (λ n. IfErr n Names) (sym w.next-is)
          (subst (λ promise. IfErr w.join-next.result (NamesHeldCall (g.G.Gate.may_refuse promise.gate.now) promise.scripts.now)) w.in-Ok.ensures.ok w.join-next.ensures)
      | in-Err w ↦ subst (λ n. IfErr n Names) (sym w.next-is) tt
    ] in
    first_of Names c.run_workers-lower.result c.match-started.next c.with_next.result tt c.run_workers-lower.ensures.held next c.with_next.ensures.first
