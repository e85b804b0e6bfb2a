use Rattle.apex_groups.proofs.Common.{◌≡◌, ℕ, ◌++◌, Bool, List, length, sym, ap, ◌∙◌, subst, arith, filter, false≢true, Logs, entries_at, in_group, AreWhole, IsOfGroups}
use Rattle.apex_log_orders.specs.declared.answer.Answer.TheVariants.{Order, NoOrder, Undecided}
use Rattle.apex_log_orders.specs.declared.answer.CallPlace.{CallPlace}
use Rattle.apex_groups.specs.LogParts.{IsAnswerOf}
use Rattle.apex_log_orders.proofs.Fronts.{order_begins}
use Rattle.apex_groups.proofs.LogGroupLemmas.{all_groups, of_added, whole_added}
use Rattle.apex_groups.proofs.Joined.{no_order}
use Rattle.apex_groups.proofs.log_orders.find_by_groups.Goals as goal
use Rattle.apex_groups.proofs.log_orders.find_by_groups.Goals.{in-Order+in_ok-add_places-in-Order, in-Undecided+in_ok-add_places-in-Undecided}

pub returns-in-NoOrder-clause-answer : goal.returns-in-NoOrder-clause-answer
returns-in-NoOrder-clause-answer g c =
    let config = c.args.config.now in
    let logs = c.args.logs.now in
    let groups = c.args.groups.now.of_partitions.items in
    let group = c.loop-group.group in
    let inside : ℕ → Bool = in_group groups group in
    let longest = c.in-NoOrder.longest in
    let found : IsAnswerOf config inside logs c.in_ok-order.field-0 = subst (λ (own : Logs). IsAnswerOf config inside own c.in_ok-order.field-0) c.loop-group.invariant.same c.in_ok-order.ensures.answer in
    let says : IsAnswerOf config inside logs (NoOrder longest) = subst (IsAnswerOf config inside logs) c.in-NoOrder.is found in
    let added : c.add_places-in-NoOrder.new.all.items ≡ c.loop-group.all.items ++ filter (λ (place : CallPlace). inside place.partition) longest.items =
    c.in_ok-add_places-in-NoOrder.ensures ∙ ap (λ (places : List CallPlace). c.loop-group.all.items ++ filter (λ (place : CallPlace). inside place.partition) places) c.as_slice-in-NoOrder.ensures.value in (
      no_order config inside (c.requires.apart.closed group) logs says.0 says.1 says.2.0,
      (of_added config logs groups c.requires.apart group c.loop-group.all.items longest.items c.add_places-in-NoOrder.new.all.items says.0 says.1 added c.loop-group.invariant.joined says.2.1).begins,
    )

pub loop-group-preserved : goal.loop-group-preserved
loop-group-preserved g c =
    let config = c.args.config.now in
    let logs = c.args.logs.now in
    let groups = c.args.groups.now.of_partitions.items in
    let group = c.loop-group.group in
    let inside : ℕ → Bool = in_group groups group in
    let all = c.loop-group.all.items in
    let found : IsAnswerOf config inside logs c.in_ok-order.field-0 = subst (λ (own : Logs). IsAnswerOf config inside own c.in_ok-order.field-0) c.loop-group.invariant.same c.in_ok-order.ensures.answer in
    let back : c.find_order_of.new.logs ≡ logs = c.in_ok-order.ensures.logs ∙ c.loop-group.invariant.same in
    elim c.match-branch-2.branch [
      | in-Order+in_ok-add_places-in-Order w ↦
          let order = w.in-Order.order in
          let says : IsAnswerOf config inside logs (Order order) = subst (IsAnswerOf config inside logs) w.in-Order.is found in
          let added : c.match-branch-2.all.items ≡ all ++ filter (λ (place : CallPlace). inside place.partition) order.items =
          (λ i. (w.all-is i).items)
          ∙ (w.in_ok-add_places-in-Order.ensures ∙ ap (λ (places : List CallPlace). all ++ filter (λ (place : CallPlace). inside place.partition) places) w.as_slice.ensures.value) in
          record {
            same = back;
            joined = of_added config logs groups c.requires.apart group all order.items c.match-branch-2.all.items says.0 says.1 added c.loop-group.invariant.joined (order_begins config says.0 (entries_at says.0 order.items) says.2);
            whole = λ is. whole_added config logs groups c.requires.apart group all order.items c.match-branch-2.all.items says.0 says.1 added c.loop-group.invariant.joined (c.loop-group.invariant.whole (sym w.is_whole-is ∙ is)) says.2;
          }
      | in-Undecided+in_ok-add_places-in-Undecided w ↦
          let longest = w.in-Undecided.longest in
          let says : IsAnswerOf config inside logs (Undecided longest) = subst (IsAnswerOf config inside logs) w.in-Undecided.is found in
          let added : c.match-branch-2.all.items ≡ all ++ filter (λ (place : CallPlace). inside place.partition) longest.items =
          (λ i. (w.all-is i).items)
          ∙ (w.in_ok-add_places-in-Undecided.ensures ∙ ap (λ (places : List CallPlace). all ++ filter (λ (place : CallPlace). inside place.partition) places) w.as_slice-in-Undecided.ensures.value) in
          record {
            same = back;
            joined = of_added config logs groups c.requires.apart group all longest.items c.match-branch-2.all.items says.0 says.1 added c.loop-group.invariant.joined says.2;
            whole = λ is. absurd (false≢true (sym w.is_whole-is ∙ is));
          }
    ]

pub returns-then-is_whole-clause-answer : goal.returns-then-is_whole-clause-answer
returns-then-is_whole-clause-answer g c =
    let config = c.args.config.now in
    let logs = c.args.logs.now in
    let groups = c.args.groups.now.of_partitions.items in
    let past = c.loop-group-test.false in
    let count = c.partitions-group-end.ensures.count in
    let last = c.loop-group.auto.group-end in
    let searched : c.loop-group.group ≡ length config.partitions = omega (arith, past, count, last) in
    all_groups config logs groups c.requires.apart c.requires.count (entries_at logs c.loop-group.all.items)
    (subst (λ (n : ℕ). IsOfGroups config logs groups n (entries_at logs c.loop-group.all.items)) searched c.loop-group.invariant.joined)
    (subst (λ (n : ℕ). AreWhole config logs groups n (entries_at logs c.loop-group.all.items)) searched (c.loop-group.invariant.whole c.if-is_whole.true))
