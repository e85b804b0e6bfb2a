use Rattle.apex_groups.proofs.Common.{◌≡◌, ℕ, ◌+◌, ◌<◌, Bool, false, List, length, sym, ap, ◌∙◌, subst, arith, nat_tests, Scripts, PossibleReply, HasNone, in_group, AreRepliesBelow, IsFoundOf, ShowCountsBelow, slice_get-get_or, Some, Err, Configuration, slice_get}
use Rattle.apex_groups.specs.Parts.{HoldsPart}
use Rattle.apex_groups.specs.PartSearches.{AreParts, AreSearchers, IsPartOf}
use Rattle.apex_groups.specs.declared.script_part.ScriptPart.{ScriptPart}
use Rattle.apex_groups.specs.declared.outcomes.OutcomesApart.{OutcomesApart}
use Rattle.apex_orders.specs.declared.outcomes.Outcomes.{Outcomes}
use Rattle.std.specs.Prelude.{get_or}
use Rattle.apex_groups.proofs.PartLemmas.{undecided_part, undecided_too}
use Rattle.apex_groups.proofs.PartSearchLemmas.{found_of_part}
use Rattle.apex_groups.proofs.PartSteps.{all_counts, all_replies, counts_added, counts_pass, replies_added, replies_pass}
use Rattle.apex_groups.proofs.outcomes.outcomes_by_parts.Goals as goal

-- the part at an index
one_at : (config : Configuration) (scripts : Scripts) (items own : List ScriptPart) (count k : ℕ) (d : ScriptPart) → AreParts config scripts items → length items ≡ count → own ≡ items → k < count
    → (slice_get own k ≡ Some (get_or own k d)) × IsPartOf config scripts (get_or own k d)
one_at config scripts items own count k d are all same below =
    let counted = ap (λ (parts : List ScriptPart). length parts) same in
    let at = slice_get-get_or own k d (omega (arith, all, below, counted)) in (at, are k (get_or own k d) (ap (λ (parts : List ScriptPart). slice_get parts k) (sym same) ∙ at))

pub search_beside-requires-clause-valid : goal.search_beside-requires-clause-valid
search_beside-requires-clause-valid g c κs within =
    subst (AreSearchers c.args.clock c.args.config.now c.args.bound c.as_slice-own.result.now) (sym c.as_mut_slice-searchers.ensures.value)
    (c.in_ok-searchers.ensures c.args.clock c.args.config.now c.args.bound)

pub loop-part-preserved-then-not-have : goal.loop-part-preserved-then-not-have
loop-part-preserved-then-not-have g c =
    let config = c.args.config.now in
    let scripts = c.args.scripts.now in
    let parts = c.args.parts.now in
    let part = c.loop-part.part in
    let one = get_or c.as_slice-own.result.now part c.index-own-part.result in
    let groups = one.members.of_partitions.items in
    let inside : ℕ → Bool = in_group groups 1 in
    let own : ℕ → Bool = in_group one.members.of_channels.items 1 in
    let valid = c.hold.ensures.valid in
    let holds : HoldsPart config parts part inside own = c.hold.ensures.holds c.if-not-hold.false in
    let no = c.if-not-have.true in
    let none : HasNone config groups 1 = c.have.ensures.none (λ is. absurd (cc)) in
    let out : (p : ℕ) → p < length config.partitions → inside p ≡ false = λ p within. let apart = none p within in grind (arith, nat_tests, apart) in
    record {
      searchers = c.loop-part.invariant.searchers;
      replies = replies_pass c.args.clock config scripts parts part inside own holds valid c.requires.count out c.loop-part.all.replies.items c.loop-part.invariant.replies;
      ends = counts_pass c.args.clock config scripts parts part inside own holds valid c.requires.count out c.loop-part.all.ends.items c.loop-part.invariant.ends;
    }

pub returns-in-Err-clause-undecided : goal.returns-in-Err-clause-undecided
returns-in-Err-clause-undecided g c =
    let config = c.args.config.now in
    let scripts = c.args.scripts.now in
    let one = get_or c.as_slice-own.result.now c.loop-part.part c.index-own-part.result in
    let is =
    one_at config scripts c.in_ok-own.own.items c.as_slice-own.result.now c.args.parts.now.count c.loop-part.part c.index-own-part.result c.in_ok-own.ensures.parts c.in_ok-own.ensures.count c.as_slice-own.ensures.value
    c.loop-part-test.true in
    undecided_too Outcomes OutcomesApart c.args.clock g.P.Progress.CanStop config scripts c.args.bound c.in-Err.fault
    (undecided_part config (in_group one.members.of_partitions.items 1) scripts one.scripts.items is.1.is {X = Outcomes} c.args.clock g.P.Progress.CanStop c.args.bound (Err c.in-Err.fault)
    (c.in-Err.ensures.undecided one is.0))

pub add_part-requires-clause-found : goal.add_part-requires-clause-found
add_part-requires-clause-found g c =
    let config = c.args.config.now in
    let scripts = c.args.scripts.now in
    let one = get_or c.as_slice-own.result.now c.loop-part.part c.index-own-part.result in
    let is =
    one_at config scripts c.in_ok-own.own.items c.as_slice-own.result.now c.args.parts.now.count c.loop-part.part c.index-own-part.result c.in_ok-own.ensures.parts c.in_ok-own.ensures.count c.as_slice-own.ensures.value
    c.loop-part-test.true in
    found_of_part c.args.clock config scripts one c.in-Ok.found is.1 (c.in-Ok.ensures.found one is.0)

pub loop-part-preserved : goal.loop-part-preserved
loop-part-preserved g c =
    let config = c.args.config.now in
    let scripts = c.args.scripts.now in
    let parts = c.args.parts.now in
    let part = c.loop-part.part in
    let one = get_or c.as_slice-own.result.now part c.index-own-part.result in
    let is =
    one_at config scripts c.in_ok-own.own.items c.as_slice-own.result.now parts.count part c.index-own-part.result c.in_ok-own.ensures.parts c.in_ok-own.ensures.count c.as_slice-own.ensures.value c.loop-part-test.true in
    let inside : ℕ → Bool = in_group one.members.of_partitions.items 1 in
    let own : ℕ → Bool = in_group one.members.of_channels.items 1 in
    let valid = c.hold.ensures.valid in
    let holds : HoldsPart config parts part inside own = c.hold.ensures.holds c.if-not-hold.false in
    let found : IsFoundOf c.args.clock config inside scripts c.in-Ok.found = found_of_part c.args.clock config scripts one c.in-Ok.found is.1 (c.in-Ok.ensures.found one is.0) in
    let replies = c.loop-part.all.replies.items in
    let ends = c.loop-part.all.ends.items in
    record {
      searchers = c.in-Ok.ensures.searchers;
      replies = subst (λ (all : List PossibleReply). AreRepliesBelow c.args.clock config scripts parts (part + 1) all) (sym c.in_ok-add_part.ensures.replies)
          (replies_added c.args.clock config scripts parts part inside own holds valid c.requires.count found.part found.is replies c.in-Ok.found.replies.items found.replies c.loop-part.invariant.replies);
      ends =
          counts_added c.args.clock config scripts parts part inside own holds valid c.requires.count found.part found.is ends c.in-Ok.found.ends.items c.add_part.new.all.ends.items found.ends c.in_ok-add_part.ensures.ends
          c.loop-part.invariant.ends;
    }

pub returns-clause-replies : goal.returns-clause-replies
returns-clause-replies g c =
    let past = c.loop-part-test.false in
    let last = c.loop-part.auto.part-end in
    let parts = c.args.parts.now in
    let searched : c.loop-part.part ≡ parts.count = omega (arith, past, last) in
    all_replies c.args.clock c.args.config.now c.args.scripts.now parts c.requires.below c.loop-part.all.replies.items
    (subst (λ (n : ℕ). AreRepliesBelow c.args.clock c.args.config.now c.args.scripts.now parts n c.loop-part.all.replies.items) searched c.loop-part.invariant.replies)

pub returns-clause-ends : goal.returns-clause-ends
returns-clause-ends g c =
    let past = c.loop-part-test.false in
    let last = c.loop-part.auto.part-end in
    let parts = c.args.parts.now in
    let searched : c.loop-part.part ≡ parts.count = omega (arith, past, last) in
    all_counts c.args.clock c.args.config.now c.args.scripts.now parts c.requires.below c.loop-part.all.ends.items
    (subst (λ (n : ℕ). ShowCountsBelow c.args.clock c.args.config.now c.args.scripts.now parts n c.loop-part.all.ends.items) searched c.loop-part.invariant.ends)
