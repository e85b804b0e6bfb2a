use Rattle.apex_board.proofs.Common.{◌≡◌, ℕ, zero, suc, ◌+◌, ◌≤◌, false, true, sym, subst, arith, Call, Configuration, History, at_index, none_or_none}
use Rattle.apex_types.specs.declared.call.Call.TheVariants.{WriteSampling}
use Rattle.apex_ports.specs.declared.history.Request.{Request}
use Rattle.apex_ports.specs.Writes.{WritesNothing}
use Rattle.apex_board.specs.OnRequests.{is_write}
use Rattle.apex_board.proofs.requests.run_list.Goals as goal

-- a call that isn't a write writes nothing
no_write : (config : Configuration) (h : History) (p : ℕ) (call : Call) → is_write call ≡ false → WritesNothing config h p call
no_write config h p (WriteSampling id message) other = absurd (cc)
no_write config h p _ other = λ at channel. none_or_none _

-- if there is no room for one more, no room is left
used_up : (room before done : ℕ) → (1 ≤ room → false ≡ true) → before ≤ room + done → before ≤ done
used_up zero before done none at_most = omega arith
used_up (suc room) before done none at_most = absurd (let some = none (omega arith) in cc)

pub returns-in-Err-clause-succeeds : goal.returns-in-Err-clause-succeeds
returns-in-Err-clause-succeeds g c none enough =
    let request = c.index-requests-done.result in
    let other = subst (λ (r : Request). is_write r.call ≡ false) (sym c.index-requests-done.is) (none c.loop-done.done request c.loop-done-test.true) in
    let room = c.loop-done.invariant.room in
    let within = c.loop-done-test.true in
    c.in-Err.ensures.succeeds (no_write c.loop-done.board.config c.loop-done.board.log request.partition request.call other) (omega arith)

pub returns-in-Err-clause-stopped_room : goal.returns-in-Err-clause-stopped_room
returns-in-Err-clause-stopped_room g c nothing =
    let request = c.index-requests-done.result in
    let here = nothing request (at_index _ _ request c.loop-done-test.true c.index-requests-done.is) in
    let was : WritesNothing c.loop-done.board.config c.loop-done.board.log request.partition request.call = rw (← c.in-Err.ensures.config, ← c.in-Err.ensures.refused) here in
    used_up c.loop-done.board.room c.args.board.now.room c.loop-done.done (c.in-Err.ensures.succeeds was) c.loop-done.invariant.room
