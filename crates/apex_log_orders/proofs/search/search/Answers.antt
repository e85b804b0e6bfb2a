use Rattle.apex_log_orders.proofs.Common.{⊎_elim, List, sym, ◌∙◌, subst, false≢true, CallPlace, IsBeginning, entries_at}
use Rattle.apex_log_orders.proofs.Beginnings.{begins_nil}
use Rattle.apex_log_orders.proofs.search.search.Goals as goal

pub loop-left-init : goal.loop-left-init
loop-left-init g c =
    let config = c.args.config.now in
    let logs = c.args.logs.now in
    record {
      walk = c.in_ok-walk.ensures;
      dead = c.new-dead_ends.ensures logs;
      longest = subst (λ (places : List CallPlace). IsBeginning config logs (entries_at logs places)) (sym c.new-longest.ensures.items) (begins_nil config logs);
    }

pub returns-then-is_stuck : goal.returns-then-is_stuck
returns-then-is_stuck g c =
    let config = c.args.config.now in
    let logs = c.args.logs.now in
    let begins : List CallPlace → Type 0 = λ places. IsBeginning config logs (entries_at logs places) in (
      c.is_stuck.ensures c.if-is_stuck.true,
      ⊎_elim
          (λ same. subst begins (sym same) c.loop-left.invariant.longest)
          (λ same. subst begins (sym (same ∙ c.as_slice.ensures.value)) (subst (IsBeginning config logs) c.loop-left.invariant.walk.log c.loop-left.invariant.walk.begins))
          c.in_ok-keep_longest.ensures,
    )

pub returns-then-not-branch : goal.returns-then-not-branch
returns-then-not-branch g c =
    let config = c.args.config.now in
    let logs = c.args.logs.now in
    let begins : List CallPlace → Type 0 = λ places. IsBeginning config logs (entries_at logs places) in (
      c.in_ok-go_back-in-Back.ensures.none (λ yes. false≢true (sym c.if-not-branch.true ∙ yes)),
      ⊎_elim
          (λ same. subst begins (sym same) c.loop-left.invariant.longest)
          (λ same. subst begins (sym (same ∙ c.as_slice-in-Back.ensures.value)) (subst (IsBeginning config logs) c.in_ok-try_next.ensures.walk.log c.in_ok-try_next.ensures.walk.begins))
          c.in_ok-keep_longest-in-Back.ensures,
    )
