use Rattle.apex_log_orders.proofs.Common.{◌++◌, ◌∷◌, [], List, ℕ, replicate, refl, sym, ap, ◌∙◌, subst, slice_get, History, CallPlace, Choice, IsBeginning, entries_at, AreTried, IsMade}
use Rattle.apex_log_orders.proofs.Beginnings.{begins_nil}
use Rattle.apex_log_orders.proofs.Counts.{made_nil}
use Rattle.apex_log_orders.proofs.Tries.{tried_nil}
use Rattle.apex_log_orders.proofs.walk.Walk.new.Goals as goal

pub returns : goal.returns
returns c =
    let config = c.args.config.now in
    let logs = c.args.logs.now in
    let log = c.in_ok-judge.ensures.log in
    let path = c.new-2.ensures.items in
    record {
      valid = c.partitions.ensures.valid;
      judged = c.in_ok-judge.ensures.config ∙ c.in_ok-copy.ensures;
      all = c.requires;
      log = log ∙ ap (λ places. entries_at logs places) (sym path);
      begins = subst (IsBeginning config logs) (sym log) (begins_nil config logs);
      made = subst (λ (x : List ℕ × History). IsMade config x.0 x.1) (λ i. (sym (c.in_ok-made.ensures ∙ ap (λ (n : ℕ). replicate n 0) c.partitions.ensures.count) i, sym log i)) (made_nil config);
      own = λ k place here. absurd (let none = sym (ap (λ places. slice_get places k) path) ∙ here in cc);
      tried = subst (λ (x : List CallPlace × List Choice). AreTried config logs x.0 x.1) (λ i. (sym path i, sym (c.in_ok-push.ensures.items ∙ ap (λ choices. choices ++ record { first = c.first-first.result; tried = 0 } ∷ []) c.new-choices.ensures.items) i)) (tried_nil config logs (record { first = c.first-first.result; tried = 0 }) refl);
    }
