use Rattle.apex_groups.proofs.Common.{◌≡◌, ◌+◌, ◌++◌, ◌∷◌, [], ℕ, List, length, length-append, sym, ap, ◌∙◌, subst}
use Rattle.apex_groups.specs.PartSearches.{AreParts, IsPartOf}
use Rattle.apex_groups.specs.declared.script_part.ScriptPart.{ScriptPart}
use Rattle.apex_groups.proofs.PartSearchLemmas.{each_and_last}
use Rattle.apex_groups.proofs.script_part.all_parts.Goals as goal

pub loop-part-preserved : goal.loop-part-preserved
loop-part-preserved c =
    let before = c.loop-part.all.items in
    let made = c.in_ok-new.field-0 in
    let items : c.push.new.self.items ≡ before ++ made ∷ [] = c.in_ok-push.ensures.items in
    record {
      count = ap (λ (parts : List ScriptPart). length parts) items ∙ (length-append before (made ∷ []) ∙ ap (λ (n : ℕ). n + 1) c.loop-part.invariant.count);
      parts = subst (AreParts c.args.config.now c.args.scripts.now) (sym items) (each_and_last (IsPartOf c.args.config.now c.args.scripts.now) before made c.loop-part.invariant.parts c.in_ok-new.ensures);
    }
