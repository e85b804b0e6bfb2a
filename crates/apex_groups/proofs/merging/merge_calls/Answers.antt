use Rattle.apex_groups.proofs.Common.{◌≡◌, ◌+◌, ◌++◌, ◌∷◌, [], ℕ, suc, Bool, true, List, Some, take, drop, take_more, slice_index_or, sym, ap, ◌∙◌, subst, in_group, history_of, IsMerged, AreAdded, AreCounted, moment_of}
use Rattle.apex_orders.specs.Clock.{IsClocked}
use Rattle.apex_groups.proofs.Merges.{merged_more, merged_pass, moment_none, moment_some, moment_within, split_at}
use Rattle.apex_groups.proofs.PartSteps.{is_in}
use Rattle.apex_groups.proofs.merging.merge_calls.Goals as goal
use Rattle.apex_groups.proofs.merging.merge_calls.Goals.{in-Some+in_ok-make_before+in_ok-make, in_default}

pub make-requires-clause-within : goal.make-requires-clause-within
make-requires-clause-within c =
    moment_within c.args.clock c.args.config.now c.args.scripts.now c.requires.count c.loop-p.merge.made.items (slice_index_or c.partitions-p-items.result.now c.loop-p.p-index 0) c.in-Some.at
    (sym c.next_moment.ensures ∙ c.in-Some.is)

pub loop-p-preserved : goal.loop-p-preserved
loop-p-preserved c =
    let clock = c.args.clock in
    let config = c.args.config.now in
    let scripts = c.args.scripts.now in
    let groups = c.args.members.now.of_partitions.items in
    let inside : ℕ → Bool = in_group groups 1 in
    let items = c.partitions-p-items.result.now in
    let i = c.loop-p.p-index in
    let p = slice_index_or items i 0 in
    let whole = c.loop-p.merge.order.items in
    let made = c.loop-p.merge.made.items in
    let was = c.loop-p.invariant in
    let own = c.requires.part in
    let here : inside p ≡ true = is_in groups p (sym c.of_partition.ensures ∙ c.if-of_partition-ne1.false) in
    let longer : take (i + 1) items ≡ take i items ++ p ∷ [] = take_more items i 0 c.loop-p-test.true in
    elim c.match-next_moment.branch [
      | in-Some+in_ok-make_before+in_ok-make w ↦
          let order = split_at items i c.loop-p-test.true ∙ c.partitions-p-items.ensures in
          let clocked : IsClocked clock own.part (history_of config own.part (take i items ++ p ∷ drop (suc i) items)) =
          subst (λ (all : List ℕ). IsClocked clock own.part (history_of config own.part all)) (sym order) own.clocked in
          let next = moment_some clock config scripts c.requires.count whole made was.counted p w.in-Some.at (sym c.next_moment.ensures ∙ w.in-Some.is) in
          let more = w.make_before.new.self.order.items in
          let added : AreAdded clock config scripts inside (Some (moment_of clock next.0)) whole more =
          subst (λ (at : ℕ). AreAdded clock config scripts inside (Some at) whole more) (sym next.2) w.in_ok-make_before.ensures.added in
          record {
            counted = subst (λ (both : List ℕ × List ℕ). AreCounted config scripts both.0 both.1) (λ j. ((sym w.merge-is j).order.items, (sym w.merge-is j).made.items)) w.in_ok-make.ensures.counted;
            merged = subst (λ (both : List ℕ × List ℕ). IsMerged clock config scripts inside both.0 both.1)
                (λ j. (sym longer j, sym (ap (λ merge. merge.order.items) w.merge-is ∙ w.in_ok-make.ensures.order) j))
                (merged_more clock config scripts inside (take i items) whole p was.merged own.part own.is here next.0 next.1 (drop (suc i) items) clocked more added);
          }
      | in_default w ↦
          let none = moment_none clock config scripts c.requires.count whole made was.counted p (sym c.next_moment.ensures ∙ w.in_default.is) in
          record {
            counted = subst (λ (both : List ℕ × List ℕ). AreCounted config scripts both.0 both.1) (λ j. ((sym w.merge-is j).order.items, (sym w.merge-is j).made.items)) was.counted;
            merged = subst (λ (both : List ℕ × List ℕ). IsMerged clock config scripts inside both.0 both.1) (λ j. (sym longer j, (sym w.merge-is j).order.items))
                (merged_pass clock config scripts inside (take i items) whole p was.merged own.part own.is here none);
          }
    ]
