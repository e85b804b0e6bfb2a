use Rattle.apex_judge.proofs.Common.{◌≡◌, ℕ, ◌+◌, List, Some, if◌then◌else◌, subst, sym, ap, ◌∙◌, rules, bytes_eq, times}
use Rattle.apex_judge.proofs.TallySteps.{counted_more}
use Rattle.apex_judge.proofs.tally.count.Goals as goal

pub returns-clause-counted : goal.returns-clause-counted
returns-clause-counted g c =
    let old = c.args.tally.now in
    let new = c.insert.new.self in
    let key = c.in_ok-key.key.items in
    let same = c.in_ok-key.ensures.items in
    let sum : c.in-Some.more ≡ c.times.result + 1 = search rules in
    let more : c.in-Some.more ≡ times old key + 1 = sum ∙ ap (λ n. n + 1) (c.times.ensures ∙ ap (λ bs. times old bs) (sym same)) in
    subst (λ bs. (other : List ℕ) → times new other ≡ times old other + (if bytes_eq bs other then 1 else 0)) same
    (counted_more key old new (Some c.in-Some.more) c.in_ok-insert.ensures.updates more)
