-- The known points, with one more, and without the first that were saved.
use Rattle.apex_orders.proofs.Common.{◌≡◌, ⊎_elim, ℕ, ◌+◌, ◌-◌, ◌≤◌, List, [], ◌∷◌, ◌++◌, length, Some, sym, ap, ◌∙◌, subst, arith, length-append, slice_get, slice_get_within, Configuration, PortsView, IsAfter, ArePoints, IsSameLevel, Scripts, order_at}
use Rattle.apex_orders.specs.declared.points.Points.{Points}
use Rattle.apex_orders.proofs.GrowthLemmas.{order_here}
use Rattle.apex_orders.proofs.Lists.{at_behind, before_or_last, stays_before}

module _ (config : Configuration) (scripts : Scripts) (orders : List (List ℕ)) (old new : Points) (are : ArePoints config scripts orders old) where
  pub points_push : (order : List ℕ) (ports : PortsView) → IsAfter config scripts order ports
      → IsSameLevel old new → new.saved.items ≡ old.saved.items ++ ports ∷ []
      → ArePoints config scripts (orders ++ order ∷ []) new
  points_push order ports after level saved = record {
    next =
        let was = are.next in
        let next = level.next in
        omega (arith, was, next, length-append orders (order ∷ []));
    level =
        let was = are.level in
        let first = level.first in
        let next = level.next in
        omega (arith, was, first, next);
    count =
        let count = are.count in
        let first = level.first in
        let longer = ap (λ (ps : List PortsView). length ps) saved in
        omega (arith, count, first, longer, length-append old.saved.items (ports ∷ []), length-append orders (order ∷ []));
    each = λ j one other at listed.
        let here : slice_get (old.saved.items ++ ports ∷ []) j ≡ Some one = ap (λ (ps : List PortsView). slice_get ps j) (sym saved) ∙ at in
        let there : slice_get (orders ++ order ∷ []) (old.first + j) ≡ Some other = ap (λ (n : ℕ). slice_get (orders ++ order ∷ []) (n + j)) (sym level.first) ∙ listed in
        let count = are.count in
        ⊎_elim
        (λ (before : slice_get old.saved.items j ≡ Some one).
        let within = slice_get_within old.saved.items j one before in
        ⊎_elim
        (λ (known : slice_get orders (old.first + j) ≡ Some other). are.each j one other before known)
        (λ (last : (old.first + j ≡ length orders) × (order ≡ other)). absurd (omega (arith, within, count, last.0)))
        (before_or_last orders order (old.first + j) other there))
        (λ (last : (j ≡ length old.saved.items) × (ports ≡ one)).
        ⊎_elim
        (λ (known : slice_get orders (old.first + j) ≡ Some other).
        let within = slice_get_within orders (old.first + j) other known in
        absurd (omega (arith, within, count, last.0)))
        (λ (both : (old.first + j ≡ length orders) × (order ≡ other)).
        subst (λ (x : List ℕ × PortsView). IsAfter config scripts x.0 x.1) (λ i. (both.1 i, last.1 i)) after)
        (before_or_last orders order (old.first + j) other there))
        (before_or_last old.saved.items ports j one here);
  }

  -- what is saved for the index belongs to the order there
  pub saved_here : (k : ℕ) (order : List ℕ) (ports : PortsView) → slice_get orders k ≡ Some order → old.first ≤ k → slice_get old.saved.items (k - old.first) ≡ Some ports
      → IsAfter config scripts order ports
  saved_here k order ports at past is =
      let there : old.first + (k - old.first) ≡ k = omega (arith, past) in
      are.each (k - old.first) ports order is (ap (λ (n : ℕ). slice_get orders n) there ∙ at)

  -- the first saved ports, and those that are left
  module _ (given : List PortsView) (count : ℕ) (saved : old.saved.items ≡ given ++ new.saved.items) (many : length given ≡ count) (first : new.first ≡ old.first + count) (next : new.next ≡ old.next)
      (within : old.first + count ≤ old.next) where
    pub points_left : ArePoints config scripts orders new
    points_left = record {
      next = let was = are.next in omega (arith, was, next);
      level = omega (arith, first, next, within);
      count =
          let count_all = are.count in
          let split = ap (λ (ps : List PortsView). length ps) saved in
          omega (arith, count_all, first, many, split, length-append given new.saved.items);
      each = λ j one order at listed.
          let index : new.first + j ≡ old.first + (length given + j) = omega (arith, first, many) in
          are.each (length given + j) one order
          (ap (λ (ps : List PortsView). slice_get ps (length given + j)) saved ∙ (at_behind given new.saved.items j ∙ at))
          (ap (λ (n : ℕ). slice_get orders n) (sym index) ∙ listed);
    }

    pub points_given : (j : ℕ) (ports : PortsView) → slice_get given j ≡ Some ports → IsAfter config scripts (order_at orders (old.first + j)) ports
    points_given j ports at =
        let within = slice_get_within given j ports at in
        let count_all = are.count in
        let split = ap (λ (ps : List PortsView). length ps) saved in
        are.each j ports (order_at orders (old.first + j))
        (ap (λ (ps : List PortsView). slice_get ps j) saved ∙ stays_before given new.saved.items j ports at)
        (order_here orders (old.first + j) (omega (arith, within, count_all, split, length-append given new.saved.items)))
