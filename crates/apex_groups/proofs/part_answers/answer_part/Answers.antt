use Rattle.apex_groups.proofs.Common.{ℕ, Bool, List, sym, subst, in_group, Scripts, Asked, Has, AreAnswersOf, ArePut, Found, IsMergedAnswer, IsOrderOf}
use Rattle.apex_orders.specs.Outcomes.{IsAnswerTo}
use Rattle.apex_groups.specs.Parts.{HoldsPart}
use Rattle.apex_groups.proofs.AnswerLemmas.{put_alike}
use Rattle.apex_groups.proofs.PartAnswers.{merged_at, orders_of_part}
use Rattle.apex_groups.proofs.part_answers.answer_part.Goals as goal

pub put_merged-requires-clause-part : goal.put_merged-requires-clause-part
put_merged-requires-clause-part g c = λ one has.
    let clock = c.args.clock in
    let config = c.args.config.now in
    let inside : ℕ → Bool = in_group c.in_ok-members.members.of_partitions.items 1 in
    subst (λ (own : Scripts). IsOrderOf clock config inside own one) (sym c.in_ok-found.ensures.scripts)
    (orders_of_part clock g.P.Progress.CanStop config inside c.args.scripts.now c.args.bound c.as_slice-asked.result.now c.in_ok-found.found.items c.in_ok-found.ensures.answers one
    (subst (λ (all : List Found). Has all one) c.as_slice.ensures.value has))

pub put_merged-requires-clause-within : goal.put_merged-requires-clause-within
put_merged-requires-clause-within g c = λ k has. c.requires.within k (subst (λ (all : List ℕ). Has all k) c.as_slice-indexes.ensures.value has)

pub returns-clause-put : goal.returns-clause-put
returns-clause-put g c =
    let clock = c.args.clock in
    let can_stop = g.P.Progress.CanStop in
    let config = c.args.config.now in
    let scripts = c.args.scripts.now in
    let bound = c.args.bound in
    let asked = c.args.picked.now.asked.items in
    let indexes = c.args.picked.now.indexes.items in
    let found = c.in_ok-found.found.items in
    let old = c.args.answers.now in
    let new = c.put_merged.new.answers in
    let inside : ℕ → Bool = in_group c.in_ok-members.members.of_partitions.items 1 in
    let own : ℕ → Bool = in_group c.in_ok-members.members.of_channels.items 1 in
    let holds : HoldsPart config c.args.parts.now c.args.part inside own = c.hold.ensures.holds c.if-not-hold.false in
    let are : AreAnswersOf clock can_stop config inside scripts bound asked found =
    subst (λ (all : List Asked). AreAnswersOf clock can_stop config inside scripts bound all found) c.as_slice-asked.ensures.value c.in_ok-found.ensures.answers in
    let put : ArePut (IsMergedAnswer clock config scripts inside) indexes found old new =
    subst (λ (all : Scripts × List ℕ × List Found). ArePut (IsMergedAnswer clock config all.0 inside) all.1 all.2 old new)
    (λ i. (c.in_ok-found.ensures.scripts i, c.as_slice-indexes.ensures.value i, c.as_slice.ensures.value i)) c.in_ok-put_merged.ensures in
    put_alike (IsMergedAnswer clock config scripts inside) indexes found (IsAnswerTo clock can_stop config scripts bound) asked
    (merged_at clock can_stop config inside scripts bound asked found are c.args.parts.now c.args.part own holds c.hold.ensures.valid c.requires.count c.requires.part) old new put
