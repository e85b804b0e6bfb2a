use Rattle.apex_groups.proofs.Common.{◌≡◌, ◌+◌, ℕ, Bool, false, Option, Some, None, sym, ◌∙◌, subst, ⊎_elim, false≢true, in_group, next_moment, IsFirstUntil, IsPast}
use Rattle.apex_groups.proofs.MergeSteps.{first_pass, first_take, not_in, past_or_before}
use Rattle.apex_groups.proofs.merging.Merge.first_outside.Goals as goal
use Rattle.apex_groups.proofs.merging.Merge.first_outside.Goals.{in-Some+then-comes_before, in-Some+else-comes_before, in_default}

pub loop-p-preserved : goal.loop-p-preserved
loop-p-preserved c =
    let groups = c.args.members.now.of_partitions.items in
    let inside : ℕ → Bool = in_group groups 1 in
    let next : ℕ → Option ℕ = next_moment c.args.clock c.args.scripts.now c.args.self.now.made.items in
    let limit = c.args.limit in
    let p = c.loop-p.p in
    let first = c.loop-p.first in
    let last = c.loop-p.last in
    let out : inside p ≡ false = not_in groups p (λ same. c.if-of_partition-eq1.false (c.of_partition.ensures ∙ same)) in
    elim c.match-next_moment.branch [
      | in-Some+then-comes_before w ↦
          subst (λ (both : Option ℕ × Option ℕ). IsFirstUntil inside next limit (p + 1) both.0 both.1) (λ i. (sym w.first-is i, sym w.last-is i))
          (first_take inside next limit p first last c.loop-p.invariant w.in-Some.at out (sym c.next_moment.ensures ∙ w.in-Some.is) (w.comes_before.ensures.0 w.if-comes_before.true))
      | in-Some+else-comes_before w ↦
          subst (λ (both : Option ℕ × Option ℕ). IsFirstUntil inside next limit (p + 1) both.0 both.1) (λ i. (sym w.first-is i, sym w.last-is i))
          (first_pass inside next limit p first last c.loop-p.invariant (λ at _ here.
          let both : Some w.in-Some.at ≡ Some at = sym w.in-Some.is ∙ (c.next_moment.ensures ∙ here) in
          let same : w.in-Some.at ≡ at = cc in
          subst (IsPast last) same (⊎_elim
          (λ (past : IsPast last w.in-Some.at). past)
          (λ (before : IsPast last w.in-Some.at → ⊥). absurd (false≢true (sym w.if-comes_before.false ∙ w.comes_before.ensures.1 before)))
          (past_or_before last w.in-Some.at))))
      | in_default w ↦
          subst (λ (both : Option ℕ × Option ℕ). IsFirstUntil inside next limit (p + 1) both.0 both.1) (λ i. (sym w.first-is i, sym w.last-is i))
          (first_pass inside next limit p first last c.loop-p.invariant (λ at _ here. absurd (let both : None ≡ Some at = sym w.in_default.is ∙ (c.next_moment.ensures ∙ here) in cc)))
    ]
