use Rattle.apex_groups.proofs.Common.{◌<◌, ℕ, Bool, List, length, Some, None, sym, subst, in_group, IsFirst, next_moment}
use Rattle.apex_groups.proofs.MergeSteps.{fewer_left, left_after}
use Rattle.apex_groups.proofs.Merges.{IsAdding, adding_end, adding_more, next_first}
use Rattle.apex_groups.proofs.merging.Merge.make_before.Goals as goal

pub loop-p-smaller : goal.loop-p-smaller
loop-p-smaller c =
    let config = c.args.config.now in
    let scripts = c.args.scripts.now in
    let inside : ℕ → Bool = in_group c.args.members.now.of_partitions.items 1 in
    let now = c.loop-p.self.order.items in
    let made = c.loop-p.self.made.items in
    let is = c.loop-p.invariant in
    let p = c.in-Some.p in
    let first : IsFirst inside (next_moment c.args.clock scripts made) c.args.limit (length config.partitions) (Some p) =
    subst (IsFirst inside (next_moment c.args.clock scripts made) c.args.limit (length config.partitions)) c.in-Some.is c.first_outside.ensures in
    let next = next_first c.args.clock config scripts inside c.requires.count c.args.limit c.args.self.now.order.items now made is.counted is.adding p first in
    subst (λ (order : List ℕ). left_after config scripts order < left_after config scripts now) (sym c.in_ok-make.ensures.order) (fewer_left config scripts now p next.0 next.1 first.is.within)

pub loop-p-preserved : goal.loop-p-preserved
loop-p-preserved c =
    let config = c.args.config.now in
    let scripts = c.args.scripts.now in
    let inside : ℕ → Bool = in_group c.args.members.now.of_partitions.items 1 in
    let old = c.args.self.now.order.items in
    let now = c.loop-p.self.order.items in
    let made = c.loop-p.self.made.items in
    let is = c.loop-p.invariant in
    let p = c.in-Some.p in
    let first : IsFirst inside (next_moment c.args.clock scripts made) c.args.limit (length config.partitions) (Some p) =
    subst (IsFirst inside (next_moment c.args.clock scripts made) c.args.limit (length config.partitions)) c.in-Some.is c.first_outside.ensures in
    record {
      counted = c.in_ok-make.ensures.counted;
      adding = subst (IsAdding c.args.clock config scripts inside c.args.limit old) (sym c.in_ok-make.ensures.order)
          (adding_more c.args.clock config scripts inside c.requires.count c.args.limit old now made is.counted is.adding p first);
    }

pub returns-clause-added : goal.returns-clause-added
returns-clause-added c =
    let config = c.args.config.now in
    let scripts = c.args.scripts.now in
    let inside : ℕ → Bool = in_group c.args.members.now.of_partitions.items 1 in
    let now = c.loop-p.self.order.items in
    let made = c.loop-p.self.made.items in
    let is = c.loop-p.invariant in
    let first : IsFirst inside (next_moment c.args.clock scripts made) c.args.limit (length config.partitions) None =
    subst (IsFirst inside (next_moment c.args.clock scripts made) c.args.limit (length config.partitions)) c.in_default.is c.first_outside.ensures in
    adding_end c.args.clock config scripts inside c.requires.count c.args.limit c.args.self.now.order.items now made is.counted is.adding first
