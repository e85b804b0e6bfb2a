use Rattle.apex_groups.proofs.Common.{◌≡◌, ℕ, List, Option, sym, ◌∙◌, subst, Asked, ArePut, Found}
use Rattle.apex_orders.specs.Outcomes.{AreAnswersTo, IsAnswerTo}
use Rattle.apex_groups.proofs.AnswerLemmas.{all_known, fits_there, known_after, put_alike, written_back}
use Rattle.apex_groups.proofs.witness.with_missing.Goals as goal

pub returns : goal.returns
returns g c =
    let clock = c.args.clock in
    let can_stop = g.P.Progress.CanStop in
    let config = c.args.config.now in
    let scripts = c.args.scripts.now in
    let bound = c.args.bound in
    let asked = c.args.asked.now in
    let picked = c.in_ok-missing.missing in
    let found = c.in_ok-found.found.items in
    let old = c.args.answers.items in
    let new = c.put_all.new.answers in
    let are : AreAnswersTo clock can_stop config scripts bound picked.asked.items found =
    subst (λ (all : List Asked). AreAnswersTo clock can_stop config scripts bound all found) c.as_slice-asked.ensures.value c.in_ok-found.ensures in
    let same : ArePut (λ (one answer : Found). one ≡ answer) picked.indexes.items found old new =
    subst (λ (both : List ℕ × List (Option Found)). ArePut (λ (one answer : Found). one ≡ answer) both.0 found both.1 new)
    (λ i. (c.as_slice-2.ensures.value i, c.as_mut_slice.ensures.value i)) c.put_all.ensures.put in
    let put = put_alike (λ (one answer : Found). one ≡ answer) picked.indexes.items found (IsAnswerTo clock can_stop config scripts bound) picked.asked.items
    (fits_there clock can_stop config scripts bound picked.asked.items found are) old new same in
    let back = written_back new _ c.args.answers.len (c.args.answers.ok.0 ∙ sym put.count) in
    all_known clock can_stop config scripts bound asked new c.in_ok-all.all.items
    (known_after clock can_stop config scripts bound asked picked old new c.in_ok-missing.ensures.picked put c.requires.known) (put.count ∙ c.requires.count)
    (c.in_ok-all.ensures ∙ back)
