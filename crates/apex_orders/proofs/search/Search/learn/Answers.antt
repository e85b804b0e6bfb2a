use Rattle.apex_orders.proofs.Common.{◌≡◌, ◌++◌, ◌∷◌, [], List, ℕ, arith, sym, ◌∙◌, ap, subst, IsClocked, AreLevels, ArePoints, calls_made, IsOrder, history_of, order_at, Knows, AreOrders, AreApart, AreClocked, Keeps}
use Rattle.apex_orders.proofs.GrowthLemmas.{order_here}
use Rattle.apex_orders.proofs.KnownLemmas.{points_push}
use Rattle.apex_orders.proofs.SearchLemmas.{apart_push, clocked_push, keeps_push, knows_push, longer_is_order, orders_push}
use Rattle.apex_orders.proofs.Levels.{known_from_next, levels_push}
use Rattle.apex_orders.proofs.search.Search.learn.Goals as goal

pub returns-clause-valid : goal.returns-clause-valid
returns-clause-valid c =
    let config = c.args.config.now in
    let scripts = c.args.scripts.now in
    let was = c.requires.valid in
    let orders = c.args.self.now.orders in
    let one = c.args.one in
    let order = order_at orders c.args.i in
    let longer = order ++ one.partition ∷ [] in
    let h = one.saved.history in
    let leads : h ≡ history_of config scripts longer = c.requires.after.history in
    let pushed = sym c.in_ok-push-2.ensures in
    let is_order : IsOrder config longer = longer_is_order config scripts order one.partition (was.orders c.args.i order (order_here orders c.args.i c.requires.within)) c.requires.partition in
    let points = c.args.self.now.points in
    let unknown : Knows config scripts orders h → ⊥ =
    λ known. c.requires.new c.if-is_known.false (known_from_next config scripts orders points.first points.next points.calls h was.levels c.requires.made known) in
    let level = c.push.ensures.level in
    let all = was.points.next in
    record {
      all = was.all;
      orders = subst (AreOrders config) pushed (orders_push config scripts orders longer was.orders is_order);
      clocked = subst (AreClocked c.args.clock config scripts) pushed (clocked_push config scripts c.args.clock orders longer was.clocked (subst (IsClocked c.args.clock scripts) leads c.requires.clocked));
      apart = subst (AreApart config scripts) pushed (apart_push config scripts orders longer h leads was.apart unknown);
      points = subst (λ (all : List (List ℕ)). ArePoints config scripts all c.push.new.self) pushed
          (points_push config scripts orders c.args.self.now.points c.push.new.self was.points longer one.saved c.requires.after level c.in_ok-push.ensures.saved);
      levels = subst (λ (x : List (List ℕ) × ℕ × ℕ × ℕ). AreLevels config scripts x.0 x.1 x.2 x.3) (λ j. (pushed j, sym level.first j, sym level.next j, sym level.calls j))
          (levels_push config scripts orders points.first points.next points.calls was.levels longer (omega (arith, all)) (ap (calls_made config) (sym leads) ∙ c.requires.made));
      found = was.found;
      uses = was.uses;
    }

pub returns-clause-later : goal.returns-clause-later
returns-clause-later c =
    let orders = c.args.self.now.orders in
    record {
      orders = subst (Keeps orders) (sym c.in_ok-push-2.ensures) (keeps_push c.args.config.now c.args.scripts.now orders (order_at orders c.args.i ++ c.args.one.partition ∷ []));
      replies = λ x has. has;
    }

pub returns-clause-known : goal.returns-clause-known
returns-clause-known c =
    let config = c.args.config.now in
    let scripts = c.args.scripts.now in
    let orders = c.args.self.now.orders in
    let h = c.args.one.saved.history in
    subst (λ (all : List (List ℕ)). Knows config scripts all h) (sym c.in_ok-push-2.ensures) (knows_push config scripts orders (order_at orders c.args.i ++ c.args.one.partition ∷ []) h c.requires.after.history)
