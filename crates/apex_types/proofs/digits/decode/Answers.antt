use Rattle.std.proofs.Common.{◌≡◌, ◌+◌, ◌*◌, ◌%◌, length, slice_index, ◌∙◌, arith}
use Rattle.hex.proofs.Pairs.{decode_step, decode_done, decode_err}
use Rattle.hex.proofs.HexLemmas.{decode_of-even}
use Rattle.apex_types.proofs.DigitLemmas.{pair_good, pair_bad}
use Rattle.apex_types.proofs.HexText.{bad_digit, good_digits}
use Rattle.apex_types.proofs.digits.decode.Goals as goal

pub returns-then-byte-gt255 : goal.returns-then-byte-gt255
returns-then-byte-gt255 c =
    let digits = c.args.digits.now in
    let even : length digits % 2 ≡ 0 = omega (arith, c.requires.twice) in
    let bad = pair_bad (slice_index digits (2 * c.loop-i.i)) (slice_index digits (2 * c.loop-i.i + 1)) (2 * c.loop-i.i) (omega (arith, c.byte_of-byte.ensures)) in
    bad_digit digits bad.0 even (decode_of-even digits even ∙ decode_err digits c.loop-i.out c.loop-i.i bad.0 (omega (arith, c.requires.twice)) bad.1 c.loop-i.invariant)

pub loop-i-preserved : goal.loop-i-preserved
loop-i-preserved c =
    let digits = c.args.digits.now in
    let good = pair_good (slice_index digits (2 * c.loop-i.i)) (slice_index digits (2 * c.loop-i.i + 1)) (2 * c.loop-i.i) (omega (arith, c.byte_of-byte.ensures)) in
    decode_step digits c.loop-i.out c.loop-i.i c.byte_of-byte.result (omega (arith, c.requires.twice)) (omega arith) (rw c.byte_of-byte.ensures good) c.loop-i.invariant

pub returns : goal.returns
returns c =
    let digits = c.args.digits.now in
    let even : length digits % 2 ≡ 0 = omega (arith, c.requires.twice) in
    good_digits digits c.loop-i.out c.requires.short (decode_of-even digits even ∙ decode_done digits c.loop-i.out c.loop-i.i (omega arith) (omega (arith, c.requires.twice)) c.loop-i.invariant)
