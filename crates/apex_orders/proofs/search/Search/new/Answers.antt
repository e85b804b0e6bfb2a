use Rattle.apex_orders.proofs.Common.{◌∙◌, ap, length, List, ℕ, [], refl, sym, subst, AreLevels, ArePoints, Has, AreOrders, AreApart, AreClocked, AreFound}
use Rattle.apex_orders.proofs.SearchLemmas.{first_valid, first_clocked, first_apart, none_found}
use Rattle.apex_orders.proofs.Levels.{first_levels}
use Rattle.apex_orders.proofs.search.Search.new.Goals as goal

pub returns-clause-valid : goal.returns-clause-valid
returns-clause-valid c clock =
    let config = c.args.config.now in
    let scripts = c.args.scripts.now in
    let first = sym c.new-orders.ensures in
    let points = c.in_ok-points.ensures in
    record {
      all = c.requires;
      orders = subst (AreOrders config) first (first_valid config scripts);
      clocked = subst (AreClocked clock config scripts) first (first_clocked config scripts clock);
      apart = subst (AreApart config scripts) first (first_apart config scripts);
      points = subst (λ (orders : List (List ℕ)). ArePoints config scripts orders c.in_ok-points.points) first (c.in_ok-points.ensures.points scripts);
      levels = subst (λ (x : List (List ℕ) × ℕ × ℕ × ℕ). AreLevels config scripts x.0 x.1 x.2 x.3) (λ i. (first i, sym points.first i, sym points.next i, sym points.calls i)) (first_levels config scripts);
      found = subst (AreFound clock config scripts) (sym c.in_ok-replies.ensures) (none_found config scripts clock);
      uses = c.in_ok-uses.ensures;
    }

pub returns-clause-first : goal.returns-clause-first
returns-clause-first c = subst (λ (orders : List (List ℕ)). Has orders []) (sym c.new-orders.ensures) (0, refl)

pub returns-clause-level : goal.returns-clause-level
returns-clause-level c = c.in_ok-points.ensures.next ∙ sym (ap (λ (orders : List (List ℕ)). length orders) c.new-orders.ensures)
