use Rattle.apex_groups.proofs.Common.{◌≡◌, ◌+◌, ◌++◌, ◌∷◌, [], ℕ, Bool, List, take, take_more, sym, ap, ◌∙◌, subst, in_group, slice_get, slice_get-get_or, Some, AreEndsAdded, IsWholeOf}
use Rattle.apex_groups.proofs.MergedEnds.{whole_of_merged}
use Rattle.apex_groups.proofs.PartSteps.{end_added}
use Rattle.apex_groups.proofs.ends.add_ends.Goals as goal

pub merge_calls-requires-clause-part : goal.merge_calls-requires-clause-part
merge_calls-requires-clause-part c =
    let ends = c.args.ends.now in
    let i = c.loop-end.end-index in
    let end = c.end-item.result in
    let item : slice_get ends i ≡ Some end = slice_get-get_or ends i end c.loop-end-test.true ∙ ap Some (sym c.end-item.is) in
    (c.requires.ends end (i, item)).of_part

pub loop-end-preserved : goal.loop-end-preserved
loop-end-preserved c =
    let config = c.args.config.now in
    let scripts = c.args.scripts.now in
    let inside : ℕ → Bool = in_group c.args.members.now.of_partitions.items 1 in
    let ends = c.args.ends.now in
    let i = c.loop-end.end-index in
    let end = c.end-item.result in
    let item : slice_get ends i ≡ Some end = slice_get-get_or ends i end c.loop-end-test.true ∙ ap Some (sym c.end-item.is) in
    let whole = c.make_before.new.self.order.items in
    let of_part = c.requires.ends end (i, item) in
    let is : IsWholeOf c.args.clock config scripts inside end whole =
    whole_of_merged c.args.clock config scripts inside c.requires.count c.merge_calls.ensures.valid end c.in_ok-merge.merge.order.items whole c.make_before.new.self.made.items
    of_part c.in_ok-merge.ensures.merged c.in_ok-make_before.ensures.added c.in_ok-make_before.ensures.counted in
    let longer : take (i + 1) ends ≡ take i ends ++ end ∷ [] =
    take_more ends i end c.loop-end-test.true ∙ ap (λ (one : List ℕ). take i ends ++ one ∷ []) (sym c.end-item.is) in
    subst (λ (both : List (List ℕ) × List (List ℕ)). AreEndsAdded c.args.clock config inside scripts both.0 c.args.all.now.items both.1)
    (λ j. (sym longer j, sym (c.in_ok-push.ensures.items ∙ ap (λ (one : List ℕ). c.loop-end.all.items ++ one ∷ []) c.new.ensures) j))
    (end_added c.args.clock config inside scripts (take i ends) c.args.all.now.items c.loop-end.all.items end whole c.loop-end.invariant is)
