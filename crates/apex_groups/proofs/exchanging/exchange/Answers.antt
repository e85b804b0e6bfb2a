use Rattle.apex_groups.proofs.Common.{◌≡◌, ◌<◌, ◌+◌, ◌∙◌, true, false, ℕ, Bool, Some, length, sym, ap, subst, arith, nat_tests, slice_get-get_or, AreExchanged, group_of, in_group}
use Rattle.apex_groups.proofs.Exchanged.{below, exchanged_pass, exchanged_more, exchanged_all, still}
use Rattle.apex_groups.proofs.exchanging.exchange.Goals as goal
use Rattle.apex_groups.proofs.exchanging.exchange.Goals.{then-of_partition-group, else-of_partition-group}

pub loop-p-preserved : goal.loop-p-preserved
loop-p-preserved g c =
    let one = c.args.one.now in
    let other = c.args.other.now in
    let p = c.loop-p.p in
    let groups = c.args.groups.now.of_partitions.items in
    let inside : ℕ → Bool = in_group groups c.args.group in
    let is = c.loop-p.invariant in
    elim c.if-of_partition-group.branch [
      | then-of_partition-group w ↦
          let same : group_of groups p ≡ c.args.group = sym c.of_partition.ensures ∙ w.if-of_partition-group.true in
          let here : inside p ≡ true = grind (arith, nat_tests, same) in
          let test = c.loop-p-test.true in
          let count = is.one.count in
          let count_too = is.other.count in
          let alike = c.requires in
          let within : p < length c.loop-p.one = omega (arith, test, count) in
          let within_too : p < length c.loop-p.other = omega (arith, test, count_too, alike) in
          record {
            one = subst (AreExchanged (below (p + 1) inside) one other) (sym w.one-is)
                (exchanged_more inside one other p c.loop-p.one is.one w.swap.new.x here within
                (ap Some w.swap.ensures.x_after ∙ (sym (slice_get-get_or c.loop-p.other p w.index-other-p.result within_too) ∙ still inside other one p c.loop-p.other is.other)));
            other = subst (AreExchanged (below (p + 1) inside) other one) (sym w.other-is)
                (exchanged_more inside other one p c.loop-p.other is.other w.swap.new.y here within_too
                (ap Some w.swap.ensures.y_after ∙ (sym (slice_get-get_or c.loop-p.one p w.index-one-p.result within) ∙ still inside one other p c.loop-p.one is.one)));
          }
      | else-of_partition-group w ↦
          let apart : group_of groups p ≡ c.args.group → ⊥ = λ same. w.if-of_partition-group.false (c.of_partition.ensures ∙ same) in
          let out : inside p ≡ false = grind (arith, nat_tests, apart) in
          record {
            one = subst (AreExchanged (below (p + 1) inside) one other) (sym w.one-is) (exchanged_pass inside one other p c.loop-p.one is.one out);
            other = subst (AreExchanged (below (p + 1) inside) other one) (sym w.other-is) (exchanged_pass inside other one p c.loop-p.other is.other out);
          }
    ]

pub returns-clause-one : goal.returns-clause-one
returns-clause-one g c =
    let past = c.loop-p-test.false in
    let same = c.requires in
    exchanged_all (in_group c.args.groups.now.of_partitions.items c.args.group) c.args.one.now c.args.other.now c.loop-p.p c.loop-p.one past (omega (arith, past, same)) c.loop-p.invariant.one

pub returns-clause-other : goal.returns-clause-other
returns-clause-other g c =
    let past = c.loop-p-test.false in
    let same = c.requires in
    exchanged_all (in_group c.args.groups.now.of_partitions.items c.args.group) c.args.other.now c.args.one.now c.loop-p.p c.loop-p.other (omega (arith, past, same)) past c.loop-p.invariant.other
