use Rattle.apex_groups.proofs.Common.{◌≡◌, ⊎_elim, ℕ, ◌<◌, ◌≤◌, List, Some, sym, ◌∙◌, subst, arith, cases_lt, false≢true, slice_get, Configuration, history_of}
use Rattle.apex_groups.specs.Ends.{IsSuchEnd}
use Rattle.apex_ports.proofs.Lookups.{at_index}
use Rattle.std.proofs.lemmas.Option.{slice_get_within}
use Rattle.apex_groups.proofs.end_witness.first_to_end.Goals as goal

pub loop-order-preserved : goal.loop-order-preserved
loop-order-preserved c =
    let scripts = c.args.scripts.now in
    let orders = c.args.orders.now in
    let asked = c.args.asked.now in
    let i = c.loop-order.order-index in
    let item = c.order-item.result in
    let no : Configuration → Type 0 = λ config. ¬ IsSuchEnd config asked (history_of config scripts item) in
    let here : slice_get orders i ≡ Some item = at_index orders i item c.loop-order-test.true c.order-item.is in
    let unlike : no c.args.config.now =
    subst no c.loop-order.invariant.config (λ such. false≢true (sym c.if-leads_to.false ∙ c.leads_to.ensures.leads.1 such)) in
    record {
      config = c.leads_to.ensures.config ∙ c.loop-order.invariant.config;
      none = λ k order below at such.
          ⊎_elim
          (λ (before : k < i). c.loop-order.invariant.none k order before at such)
          (λ (past : i ≤ k).
          let is : k ≡ i = omega (arith, past, below) in
          let same : item ≡ order = cc in
          unlike (subst (λ (order : List ℕ). IsSuchEnd c.args.config.now asked (history_of c.args.config.now scripts order)) (sym same) such))
          (cases_lt k i);
    }

pub returns : goal.returns
returns c = λ inside order has such.
    let below = slice_get_within c.args.orders.now has.0 order has.1 in
    c.loop-order.invariant.none has.0 order (omega (arith, below, c.loop-order-test.false)) has.1 such
