use Rattle.apex_groups.proofs.Common.{◌<◌, ℕ, List, subst, arith, group_of}
use Rattle.apex_groups.proofs.PartSteps.{below_of}
use Rattle.apex_groups.proofs.parts.Parts.are_below.Goals as goal

pub returns-then-have_less : goal.returns-then-have_less
returns-then-have_less c holds =
    let parts = c.args.self.now in
    let past = c.loop-one-test.false in
    let count = c.deref-one-items.ensures.len in
    below_of parts (λ p id within. c.loop-one.invariant p id (omega (arith, past, count, within)))
    (subst (λ (numbers : List ℕ). (c : ℕ) → group_of numbers c < parts.count) c.as_slice-2.ensures.value (c.have_less-2.ensures c.if-have_less.true))
    (subst (λ (numbers : List ℕ). (p : ℕ) → group_of numbers p < parts.count) c.as_slice-then-have_less.ensures.value (c.have_less-then-have_less.ensures holds))
