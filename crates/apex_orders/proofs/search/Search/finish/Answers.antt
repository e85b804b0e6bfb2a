use Rattle.apex_orders.proofs.Common.{◌≡◌, ⊎_elim, ◌+◌, ◌++◌, ◌-◌, ◌<◌, ℕ, List, Some, length, sym, ap, ◌∙◌, subst, arith, slice_get, Has, HasTriedEnough, PortsView, order_given, orders_known}
use Rattle.apex_orders.proofs.GrowthLemmas.{order_here}
use Rattle.apex_orders.proofs.Having.{has_either}
use Rattle.apex_orders.proofs.WorkerLemmas.{reach_within, tried_along}
use Rattle.apex_orders.proofs.search.Search.finish.Goals as goal

pub add_points-requires-clause-valid : goal.add_points-requires-clause-valid
add_points-requires-clause-valid c =
    let was = c.requires.valid in
    record {
      all = was.all;
      orders = was.orders;
      clocked = was.clocked;
      apart = was.apart;
      points = was.points;
      levels = was.levels;
      found = λ one has.
          ⊎_elim
          (λ (before : Has c.args.self.now.replies one). was.found one before)
          (λ (new : Has c.args.worker.now.replies one). c.requires.worker.replies one new)
          (c.in_ok-add_all.ensures.only one has);
      uses = was.uses;
    }

pub add_points-requires-clause-marks : goal.add_points-requires-clause-marks
add_points-requires-clause-marks c = let fit = c.requires.marks in record { count = fit.count; known = fit.known; new = fit.new }

pub returns-clause-later : goal.returns-clause-later
returns-clause-later c =
    let later = c.in_ok-add_points.ensures.later in
    record { orders = later.orders; replies = λ one has. later.replies one (c.in_ok-add_all.ensures.kept one has) }

pub returns-clause-tried : goal.returns-clause-tried
returns-clause-tried c from to range k past below order at =
    let config = c.args.config.now in
    let scripts = c.args.scripts.now in
    let clock = c.args.clock in
    let old = c.args.worker.now in
    let new = c.add_points.new.self in
    let known = c.args.self.now.replies in
    let base = c.requires.base in
    let none = ap (λ (points : List PortsView). length points) c.requires.all in
    let later = c.in_ok-add_points.ensures.later in
    let first = range.first in
    let last = range.last in
    let j : ℕ = k - old.first in
    let index : old.first + j ≡ k = omega (arith, first, past) in
    let within : j < old.tried = omega (arith, first, last, past, below, none) in
    let all = c.requires.worker.given.within in
    let own = reach_within old c.requires.left in
    let inside : old.first + j < length old.base.value = omega (arith, all, within, own) in
    let there : slice_get new.orders k ≡ Some (order_given old j) =
    ap (λ (n : ℕ). slice_get new.orders n) (sym index)
    ∙ later.orders (old.first + j) (order_given old j) (base (old.first + j) (order_given old j) (order_here old.base.value (old.first + j) inside)) in
    let both : Some (order_given old j) ≡ Some order = sym there ∙ at in
    let same : order_given old j ≡ order = cc in
    subst (HasTriedEnough clock config scripts new.orders new.replies) same
    (tried_along config scripts clock (orders_known old) new.orders (known ++ old.replies) new.replies (order_given old j) c.in_ok-add_points.ensures.points
    (λ one has.
    later.replies one
    (⊎_elim
    (λ (before : Has known one). c.in_ok-add_all.ensures.kept one before)
    (λ (found : Has old.replies one). c.in_ok-add_all.ensures.added one found)
    (has_either known old.replies one has)))
    (c.requires.tried j within))
