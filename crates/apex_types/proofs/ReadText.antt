-- Any text that is read as a name or as a message is ASCII.
use Rattle.std.proofs.Common.{◌≡◌, ◌<◌, ℕ, Bool, true, false, cond, List, [], length, get_or, Result, Ok, Err, refl, sym, subst, arith, lit<, eqb, ltb}
use Rattle.std.specs.List.{list_all}
use Rattle.std.specs.Str.{IsAscii, bytes_eq}
use Rattle.std.proofs.lemmas.Str.Ascii.{IsAscii-nil, IsAscii-cons, IsAscii-from_all}
use Rattle.std.proofs.lemmas.Slice.Eq.{bytes_eq-Decides}
use Rattle.hex.specs.Hex.{decode_of, is_hex_digit}
use Rattle.hex.specs.declared.error.FromHexError.{FromHexError}
use Rattle.hex.specs.declared.error.FromHexError.TheVariants as hex
use Rattle.hex.proofs.HexLemmas.{decode_of-ok}
use Rattle.apex_types.proofs.NameLemmas.{name_is_ascii}
use Rattle.apex_types.specs.Message.{empty_word, message_of_digits, message_of_hex}
use Rattle.apex_types.specs.Name.{is_name_byte, name_of}
use Rattle.apex_types.specs.declared.name.NameFault.TheVariants.{Empty, TooLong, BadCharacter}
use Rattle.apex_types.specs.declared.name.TheConstants.{NAME_LIMIT}

named : (empty long all : Bool) (text name : List ℕ) → cond empty (Err Empty) (cond long (Err TooLong) (cond all (Ok text) (Err BadCharacter))) ≡ Ok name → all ≡ true
named true long all text name read = absurd (cc)
named false true all text name read = absurd (cc)
named false false true text name read = refl
named false false false text name read = absurd (cc)

pub read_name_is_ascii : (text name : List ℕ) → name_of text ≡ Ok name → IsAscii text
read_name_is_ascii text name read =
    name_is_ascii text (named (eqb (length text) 0) (ltb NAME_LIMIT (length text)) (list_all is_name_byte text) text name read)

hex_digit-ascii : (byte : ℕ) → is_hex_digit byte ≡ true → byte < 128
hex_digit-ascii byte is = grind (arith, is)

digits_are_ascii : (text bytes : List ℕ) → decode_of text ≡ Ok bytes → IsAscii text
digits_are_ascii text bytes read =
    let pass = (decode_of-ok text bytes read).1 in
    IsAscii-from_all text (λ k d lt. hex_digit-ascii (get_or text k d) (pass k d lt))

of_digits : (text message : List ℕ) (decoded : Result (List ℕ) FromHexError) → decode_of text ≡ decoded → message_of_digits decoded ≡ Ok message → IsAscii text
of_digits text message (Ok bytes) is read = digits_are_ascii text bytes is
of_digits text message (Err hex.OddLength) is read = absurd (cc)
of_digits text message (Err (hex.InvalidHexCharacter c i)) is read = absurd (cc)
of_digits text message (Err hex.InvalidStringLength) is read = absurd (cc)
of_digits text message (Err hex.OutOfMemory) is read = absurd (cc)

of_text : (text message : List ℕ) (b : Bool) → bytes_eq text empty_word ≡ b → cond b (Ok []) (message_of_digits (decode_of text)) ≡ Ok message → IsAscii text
of_text text message true is read = subst IsAscii (sym ((bytes_eq-Decides text empty_word).0 is)) (IsAscii-cons 45 [] (lit< tt) IsAscii-nil)
of_text text message false is read = of_digits text message (decode_of text) refl read

pub read_message_is_ascii : (text message : List ℕ) → message_of_hex text ≡ Ok message → IsAscii text
read_message_is_ascii text message read = of_text text message (bytes_eq text empty_word) refl read
