use Rattle.std.proofs.Common.{◌≡◌, ◌∙◌, ◌%◌, length, sym, arith}
use Rattle.apex_types.proofs.HexText.{read_by_digits, some_bad_digit, too_many_digits}
use Rattle.apex_types.proofs.message.Message.read_hex_bytes.Goals as goal

pub returns-then-has_hex_digits : goal.returns-then-has_hex_digits
returns-then-has_hex_digits c =
    let text = c.args.digits.now in
    let even : length text % 2 ≡ 0 = omega arith in
    let tested = c.has_hex_digits.ensures in
    rw (read_by_digits text even, too_many_digits text even (omega arith) (sym tested ∙ c.if-has_hex_digits.true))

pub returns-else-has_hex_digits : goal.returns-else-has_hex_digits
returns-else-has_hex_digits c =
    let text = c.args.digits.now in
    let even : length text % 2 ≡ 0 = omega arith in
    let tested = c.has_hex_digits.ensures in
    rw (read_by_digits text even, some_bad_digit text even (sym tested ∙ c.if-has_hex_digits.false))

pub returns : goal.returns
returns c =
    let text = c.args.digits.now in
    let even : length text % 2 ≡ 0 = omega arith in
    rw (read_by_digits text even) c.read_in_place.ensures
