use Rattle.apex_texts.proofs.Common.{◌≡◌, ◌<◌, ◌+◌, ◌*◌, ◌-◌, true, get_or, sym, ◌∙◌, rules, arith, is_digit}
use Rattle.apex_texts.proofs.NumberLemmas.{grows_great}
use Rattle.apex_texts.proofs.text.number_up_to.Goals as goal

pub returns-in_err-checked_mul : goal.returns-in_err-checked_mul
returns-in_err-checked_mul c =
    let digit : is_digit (get_or c.args.word.now c.loop-byte.byte-index 0) ≡ true = search rules in
    let great : c.args.limit < c.loop-byte.value * 10 + (get_or c.args.word.now c.loop-byte.byte-index 0 - 48) = omega (arith, c.in_err-checked_mul.ensures) in
    c.from_residual.ensures ∙ rw (sym c.is_empty.ensures ∙ c.if-is_empty.false) (sym (grows_great c.args.limit c.loop-byte.value c.loop-byte.byte-index c.args.word.now c.loop-byte-test.true digit great c.loop-byte.invariant))

pub returns-in_err-value : goal.returns-in_err-value
returns-in_err-value c =
    let digit : is_digit (get_or c.args.word.now c.loop-byte.byte-index 0) ≡ true = search rules in
    let great : c.args.limit < c.loop-byte.value * 10 + (get_or c.args.word.now c.loop-byte.byte-index 0 - 48) = omega (arith, c.in_err-value.ensures, c.in_ok-checked_mul.ensures) in
    c.from_residual-in_err-value.ensures ∙ rw (sym c.is_empty.ensures ∙ c.if-is_empty.false) (sym (grows_great c.args.limit c.loop-byte.value c.loop-byte.byte-index c.args.word.now c.loop-byte-test.true digit great c.loop-byte.invariant))
