use Rattle.apex_texts.proofs.Common.{◌≡◌, ◌++◌, Some, None, sym, ap, ◌∙◌, take-append-drop, position, is_blank}
use Rattle.apex_texts.proofs.PositionLemmas.{in_front, behind}
use Rattle.apex_texts.proofs.text.blank_in.Goals as goal

pub returns-in-Some : goal.returns-in-Some
returns-in-Some c =
    let near = c.split_at.result.0.now in
    let far = c.split_at.result.1.now in
    let whole : near ++ far ≡ c.args.line.now = (λ i. c.split_at.ensures.front i ++ c.split_at.ensures.back i) ∙ take-append-drop c.min.result c.args.line.now in
    sym (in_front is_blank near far c.in-Some.at (sym c.blank_near_in.ensures ∙ c.in-Some.is)) ∙ ap (position is_blank) whole

pub returns-in-Some-blank_far_in : goal.returns-in-Some-blank_far_in
returns-in-Some-blank_far_in c =
    let near = c.split_at.result.0.now in
    let far = c.split_at.result.1.now in
    let whole : near ++ far ≡ c.args.line.now = (λ i. c.split_at.ensures.front i ++ c.split_at.ensures.back i) ∙ take-append-drop c.min.result c.args.line.now in
    sym (behind is_blank near far (Some c.in-Some-blank_far_in.at) (sym c.blank_near_in.ensures ∙ c.in-None.is) (sym c.blank_far_in.ensures.found ∙ c.in-Some-blank_far_in.is)) ∙ ap (position is_blank) whole

pub returns-in-None-blank_far_in : goal.returns-in-None-blank_far_in
returns-in-None-blank_far_in c =
    let near = c.split_at.result.0.now in
    let far = c.split_at.result.1.now in
    let whole : near ++ far ≡ c.args.line.now = (λ i. c.split_at.ensures.front i ++ c.split_at.ensures.back i) ∙ take-append-drop c.min.result c.args.line.now in
    sym (behind is_blank near far None (sym c.blank_near_in.ensures ∙ c.in-None.is) (sym c.blank_far_in.ensures.found ∙ c.in-None-blank_far_in.is)) ∙ ap (position is_blank) whole
