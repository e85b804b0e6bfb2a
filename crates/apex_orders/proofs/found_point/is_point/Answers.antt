use Rattle.apex_orders.proofs.Common.{refl, subst, PortsView, IsSamePoint}
use Rattle.apex_orders.proofs.SavedAlike.{same_point}
use Rattle.apex_orders.proofs.found_point.is_point.Goals as goal

pub returns-then-is_same-clause-same : goal.returns-then-is_same-clause-same
returns-then-is_same-clause-same c = (
  λ yes.
      let saved = c.args.saved.now in
      subst (λ (v : PortsView). IsSamePoint v.config v.history c.args.point.now.history) c.requires.saved
      (same_point saved.config saved.history c.args.point.now.history (c.is_same.ensures.0 c.if-is_same.true)),
  λ has. refl,
)
