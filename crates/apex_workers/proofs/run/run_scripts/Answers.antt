use Rattle.std.proofs.Common.{◌≡◌, ◌⊎◌, inl, inr, ℕ, List, Result, Err, IfOk, IfErr, vec_len, length, replicate, subst, sym, ap, ◌∙◌}
use Rattle.apex_types.specs.declared.call.Call.{Call}
use Rattle.apex_types.specs.declared.moment.Moment.{Moment}
use Rattle.apex_ports.specs.declared.run_fault.RunFault.{RunFault}
use Rattle.apex_ports.specs.declared.run_fault.RunFault.TheVariants as run_fault
use Rattle.apex_threads.specs.Collected.{HasScripts}
use Rattle.apex_threads.specs.Held.{NamesHeldCall}
use Rattle.apex_workers.specs.Alone.{ShowsScriptsAlone}
use Rattle.apex_workers.proofs.Crossing.{LockedObservedBoard-sync}
use Rattle.apex_workers.specs.contracts.run.run_scripts as run_scripts
use Rattle.apex_workers.proofs.run.run_scripts.Goals as goal

pub returns-in-Ok-clause-count : goal.returns-in-Ok-clause-count
returns-in-Ok-clause-count g c =
    let same = c.as_slice-in-Ok.ensures.value ∙ c.in_ok-packed.ensures in
    subst (λ (n : ℕ). IfOk c.collected.result (λ finished. vec_len finished.replies ≡ n)) (ap length same ∙ c.requires) c.collected.ensures.count

pub run_over-answered-requires-sync-S : goal.run_over-answered-requires-sync-S
run_over-answered-requires-sync-S g c κs within =
    record { shared = (LockedObservedBoard-sync (run_scripts.A-row g.row.R g.row.A g.row.G) g.A.Allocator c.type_bounds.send-A c.type_bounds.sync-A c.type_bounds.frees-A-Allocator).shared }

held_still : {T : Type 0} (may_refuse : ℕ → ℕ → Type 0) (scripts : List (List (Moment × Call))) (answered : Result T RunFault) (fault : RunFault) → IfErr answered (NamesHeldCall may_refuse scripts)
    → (answered ≡ Err fault) ⊎ (fault ≡ run_fault.OutOfMemory) → NamesHeldCall may_refuse scripts fault
held_still may_refuse scripts answered fault held (inl same) = subst (λ r. IfErr r (NamesHeldCall may_refuse scripts)) same held
held_still may_refuse scripts answered fault held (inr memory) = subst (NamesHeldCall may_refuse scripts) (sym memory) tt

pub returns-in-Err-clause-held : goal.returns-in-Err-clause-held
returns-in-Err-clause-held g c =
    let may_refuse = g.G.Gate.may_refuse c.args.gate.now in
    let held = subst (λ (scripts : List (List (Moment × Call))). IfErr c.run_over-answered.result (NamesHeldCall may_refuse scripts)) (c.as_slice.ensures.value ∙ c.in_ok-packed.ensures) c.run_over-answered.ensures.held in
    held_still may_refuse c.args.scripts.now c.run_over-answered.result c.in-Err.fault held c.in-Err.ensures.fault

pub collected-requires-clause-counts : goal.collected-requires-clause-counts
collected-requires-clause-counts g c =
    let same = c.as_slice-in-Ok.ensures.value ∙ c.in_ok-packed.ensures in
    let none : c.in_ok-counts.counts.items ≡ replicate (length c.args.scripts.now) 0 = c.in_ok-counts.ensures.items_if_clones_equal (λ y is. is) in
    none ∙ ap (λ (n : ℕ). replicate n 0) (sym (ap length same))

pub returns-in-Ok-clause-calls : goal.returns-in-Ok-clause-calls
returns-in-Ok-clause-calls g c =
    subst (λ (scripts : List (List (Moment × Call))). IfOk c.collected.result (λ finished. HasScripts finished.board.log scripts)) (c.as_slice-in-Ok.ensures.value ∙ c.in_ok-packed.ensures) c.collected.ensures.calls

pub returns-in-Ok-clause-isolated : goal.returns-in-Ok-clause-isolated
returns-in-Ok-clause-isolated g c =
    subst (λ (scripts : List (List (Moment × Call))). IfOk c.collected.result (λ finished. ShowsScriptsAlone c.args.config.now scripts finished.replies.items finished.board.log))
    (c.as_slice-in-Ok.ensures.value ∙ c.in_ok-packed.ensures) c.collected.ensures.isolated
