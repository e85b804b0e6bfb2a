use Rattle.apex_orders.proofs.Common.{◌≡◌, ◌+◌, ◌++◌, zero, suc, [], ◌∷◌, List, ℕ, Some, length, sym, ap, ◌∙◌, subst, arith, slice_get, Configuration, PortsView, Scripts, IsAfter}
use Rattle.apex_orders.proofs.points.Points.new.Goals as goal

first_after : (config : Configuration) (scripts : Scripts) (ports one : PortsView) (order : List ℕ) (j : ℕ) → IsAfter config scripts [] ports → slice_get (ports ∷ []) j ≡ Some one → slice_get ([] ∷ []) j ≡ Some order
    → IsAfter config scripts order one
first_after config scripts ports one order zero after at listed =
    let same : ports ≡ one = cc in
    let none : [] ≡ order = cc in
    subst (λ (x : List ℕ × PortsView). IsAfter config scripts x.0 x.1) (λ i. (none i, same i)) after
first_after config scripts ports one order (suc j) after at listed = absurd (cc)

pub returns-clause-points : goal.returns-clause-points
returns-clause-points c = λ scripts.
    let config = c.args.config.now in
    let ports = c.in_ok-save.field-0 in
    let saved : c.push_back.new.self.items ≡ ports ∷ [] = c.in_ok-push_back.ensures.items ∙ ap (λ (ps : List PortsView). ps ++ ports ∷ []) c.new-saved.ensures.items in
    let after : IsAfter config scripts [] ports = record {
      configured = ap (λ (v : PortsView). v.config) c.in_ok-save.ensures ∙ (c.in_ok-ports.ensures.config ∙ c.in_ok-copy.ensures);
      history = ap (λ (v : PortsView). v.history) c.in_ok-save.ensures ∙ c.in_ok-ports.ensures.history;
    } in
    record {
      next = omega arith;
      level = omega arith;
      count = let one = ap (λ (ps : List PortsView). length ps) saved in omega (arith, one);
      each = λ j one order at listed.
          let index : 0 + j ≡ j = omega arith in
          first_after config scripts ports one order j after (subst (λ (ps : List PortsView). slice_get ps j ≡ Some one) saved at) (ap (λ (n : ℕ). slice_get ([] ∷ []) n) (sym index) ∙ listed);
    }
