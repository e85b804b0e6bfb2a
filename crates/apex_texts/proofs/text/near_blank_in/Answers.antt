use Rattle.apex_texts.proofs.Common.{◌≡◌, ◌++◌, ◌∙◌, take-append-drop, arith, is_blank}
use Rattle.apex_texts.proofs.PositionLemmas.{front_found}
use Rattle.apex_texts.proofs.text.near_blank_in.Goals as goal

pub returns : goal.returns
returns c =
    let near = c.split_at.result.0.now in
    let far = c.split_at.result.1.now in
    let whole : near ++ far ≡ c.args.line.now = (λ i. c.split_at.ensures.front i ++ c.split_at.ensures.back i) ∙ take-append-drop c.min.result c.args.line.now in
    front_found is_blank near far c.args.line.now c.blank_near_in.result 16 whole (λ short. omega (arith, c.split_at.ensures.front_len, c.min.ensures, short)) c.blank_near_in.ensures
