-- The hexadecimal texts of messages.
use Rattle.std.proofs.Common.{◌≡◌, ◌∙◌, refl, ℕ, ◌*◌, ◌%◌, ◌<◌, ◌≤◌, Bool, true, false, ◌&&◌, List, [], ◌∷◌, length, Result, Ok, Err, arith, inl, inr}
use Rattle.std.specs.List.{list_all}
use Rattle.std.specs.Str.{IsAscii, bytes_eq}
use Rattle.std.proofs.lemmas.Bool.Decides.{nat_tests}
use Rattle.std.proofs.lemmas.List.Sums.{AllPass-from_list_all, list_all-from_AllPass}
use Rattle.hex.specs.Hex.{IsBytes, decode_of, encode_lower, is_hex_digit, lower_digits}
use Rattle.hex.specs.declared.error.FromHexError.{FromHexError}
use Rattle.hex.proofs.HexLemmas.{decode_of-digits, decode_of-encode_lower, decode_of-err, decode_of-ok, length-encode_with, IsAscii-encode_with}
use Rattle.apex_types.proofs.NameLemmas.{name_is_ascii}
use Rattle.apex_types.specs.Message.{empty_word, hex_text_of, message_of_digits, message_of_hex}
use Rattle.apex_types.specs.declared.message.HexFault.TheVariants.{BadDigit, TooLong}
use Rattle.apex_types.specs.declared.message.TheConstants.{MESSAGE_LIMIT}

-- ---- what the digits encode

-- no more bytes than a message holds
short_is_read : (bytes : List ℕ) → length bytes ≤ MESSAGE_LIMIT → message_of_digits (Ok bytes) ≡ Ok bytes
short_is_read bytes short = grind (arith, nat_tests)

-- more bytes than a message holds
long_is_refused : (bytes : List ℕ) → MESSAGE_LIMIT < length bytes → message_of_digits (Ok bytes) ≡ Err TooLong
long_is_refused bytes long = grind (arith, nat_tests)

-- an even number of characters that can't be read has a bad digit
pub bad_digit : (text : List ℕ) (e : FromHexError) → length text % 2 ≡ 0 → decode_of text ≡ Err e → message_of_digits (decode_of text) ≡ Err BadDigit
bad_digit text e even refused =
    elim (decode_of-err text e refused) [
      | inl odd ↦
          let is_odd = odd.0 in
          absurd (omega arith)
      | inr bad ↦ rw (refused, bad.1) refl
    ]

-- good digits, at most as many as a message has
pub good_digits : (text bytes : List ℕ) → length text ≤ 2 * MESSAGE_LIMIT → decode_of text ≡ Ok bytes → message_of_digits (decode_of text) ≡ Ok bytes
good_digits text bytes short read =
    let twice = (decode_of-ok text bytes read).2 in
    rw read (short_is_read bytes (omega (arith, twice)))

-- good digits, but too many
pub too_many_digits : (text : List ℕ) → length text % 2 ≡ 0 → 2 * MESSAGE_LIMIT < length text → list_all is_hex_digit text ≡ true → message_of_digits (decode_of text) ≡ Err TooLong
too_many_digits text even long good =
    let read = decode_of-digits text even (AllPass-from_list_all is_hex_digit text good) in
    let twice = (decode_of-ok text read.0 read.1).2 in
    rw read.1 (long_is_refused read.0 (omega (arith, twice)))

fault_of_result : (text : List ℕ) (r : Result (List ℕ) FromHexError) → decode_of text ≡ r → length text % 2 ≡ 0 → list_all is_hex_digit text ≡ false → message_of_digits (decode_of text) ≡ Err BadDigit
fault_of_result text (Ok bytes) read even bad = cc (list_all-from_AllPass is_hex_digit text (decode_of-ok text bytes read).1)
fault_of_result text (Err e) refused even bad = bad_digit text e even refused

-- digits, one of which is bad
pub some_bad_digit : (text : List ℕ) → length text % 2 ≡ 0 → list_all is_hex_digit text ≡ false → message_of_digits (decode_of text) ≡ Err BadDigit
some_bad_digit text even bad = fault_of_result text (decode_of text) refl even bad

-- ---- the text `-`

and_false : (b : Bool) → (b && false) ≡ false
and_false true = refl
and_false false = refl

-- a text of an even number of digits is not `-`
not_the_word : (text : List ℕ) → length text % 2 ≡ 0 → bytes_eq text empty_word ≡ false
not_the_word [] even = refl
not_the_word (a ∷ []) even = absurd (omega arith)
not_the_word (a ∷ b ∷ rest) even = and_false _

-- a text of an even number of digits is read as the message that they encode
pub read_by_digits : (text : List ℕ) → length text % 2 ≡ 0 → message_of_hex text ≡ message_of_digits (decode_of text)
read_by_digits text even = rw (not_the_word text even) refl

-- ---- the text of a message

-- its digits are ASCII
pub digits_are_ascii : (bytes : List ℕ) → IsAscii (encode_lower bytes)
digits_are_ascii bytes = IsAscii-encode_with lower_digits bytes (name_is_ascii lower_digits refl)

-- it reads as the message
pub text_reads_back : (message : List ℕ) → IsBytes message → length message ≤ MESSAGE_LIMIT → message_of_hex (hex_text_of message) ≡ Ok message
text_reads_back [] fits short = refl
text_reads_back (byte ∷ rest) fits short =
    let twice = length-encode_with lower_digits (byte ∷ rest) in
    let back = decode_of-encode_lower (byte ∷ rest) fits in
    read_by_digits (encode_lower (byte ∷ rest)) (omega (arith, twice)) ∙ good_digits (encode_lower (byte ∷ rest)) (byte ∷ rest) (omega (arith, twice)) back
