use Rattle.std.proofs.Common.{◌≡◌, ◌∷◌, ap, ◌∙◌, subst, rules}
use Rattle.dekarino_texts.specs.Prelude.{Configuration, History}
use Rattle.dekarino_texts.specs.Counts.{AreOnly, AreWidened, ranges_over}
use Rattle.apex_orders.specs.Orders.{history_of}
use Rattle.apex_ports.proofs.Lookups.{at_index}
use Rattle.apex_ports.specs.PortsView.{PortsView}
use Rattle.dekarino_texts.proofs.CountLemmas.{ranges_there, starts_there, widened_on}
use Rattle.dekarino_texts.proofs.counts.ranges_of.Goals as goal

pub loop-order-init : goal.loop-order-init
loop-order-init c =
    let config = c.args.config.now in
    let scripts = c.args.scripts.now in
    let first = c.in-Some.first.now in
    let rest = c.in-Some.rest.now in
    let all = c.in_ok-all.all.items in
    let is : c.args.orders.now ≡ first ∷ rest = search rules in
    let new = c.in_ok-replayer.ensures.config in
    let same = ap (λ (ports : PortsView). ports.config) c.ports-2.ensures ∙ (c.run.ensures.config ∙ new) in
    let after = ap (λ (ports : PortsView). ports.history) c.ports-2.ensures ∙ (c.run.ensures.history ∙ ap (λ (config : Configuration). history_of config scripts first) new) in
    let are : AreOnly config (history_of config scripts first) all = subst (λ (at : Configuration × History). AreOnly at.0 at.1 all) (λ i. (same i, after i)) c.in_ok-all.ensures in
    record {
      config = c.run.ensures.config ∙ new;
      count = are.count;
      each = starts_there config scripts first rest c.args.orders.now all is are;
    }

pub loop-order-preserved : goal.loop-order-preserved
loop-order-preserved c =
    let config = c.args.config.now in
    let scripts = c.args.scripts.now in
    let rest = c.in-Some.rest.now in
    let i = c.loop-order.order-index in
    let order = c.order-item.result in
    let before = c.loop-order.all.items in
    let now = c.widen.new.all.items in
    let ports = c.ports-in-loop-order.ensures in
    let ran = c.run-in-loop-order.ensures in
    let known = c.loop-order.invariant.config in
    let same = ap (λ (ports : PortsView). ports.config) ports ∙ (ran.config ∙ known) in
    let after = ap (λ (ports : PortsView). ports.history) ports ∙ (ran.history ∙ ap (λ (config : Configuration). history_of config scripts order) known) in
    let are = subst (λ (at : Configuration × History). AreWidened at.0 at.1 before now) (λ i. (same i, after i)) c.widen.ensures in
    record {
      config = ran.config ∙ known;
      count = are.count ∙ c.loop-order.invariant.count;
      each = widened_on config scripts rest (ranges_over config scripts c.args.orders.now) before now i order (at_index rest i order c.loop-order-test.true c.order-item.is) are c.loop-order.invariant.each;
    }

pub returns : goal.returns
returns c =
    ranges_there c.args.config.now c.args.scripts.now c.in-Some.rest.now c.args.orders.now c.loop-order.all.items c.loop-order.order-index
    c.loop-order-test.false c.loop-order.invariant.count c.loop-order.invariant.each
