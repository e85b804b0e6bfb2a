use Rattle.apex_mistakes.proofs.Common.{◌≡◌, ◌+◌, ◌-◌, suc, sym, ap, ◌∙◌, arith, from_word_at}
use Rattle.apex_mistakes.proofs.line_place.from_word_at.Goals as goal

pub loop-skipped-preserved : goal.loop-skipped-preserved
loop-skipped-preserved c =
    let left = c.args.before - (c.loop-skipped.skipped + 1) in
    let one : c.args.before - c.loop-skipped.skipped ≡ suc left = omega arith in
    ap (from_word_at left) c.behind_first_word-rest.ensures ∙ ap (λ n. from_word_at n c.loop-skipped.rest.now) (sym one) ∙ c.loop-skipped.invariant
