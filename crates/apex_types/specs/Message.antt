-- Messages. A message is the list of its bytes.
use Rattle.std.specs.Prelude.{ℕ, nat_lt, bytes_eq, if◌then◌else◌, List, [], length, codes, Result, Ok, Err}
use Rattle.hex.specs.Hex.{decode_of, encode_lower}
use Rattle.hex.specs.declared.error.FromHexError.{FromHexError}
use Rattle.hex.specs.declared.error.FromHexError.TheVariants as hex
use Rattle.apex_types.specs.declared.message.TheConstants.{MESSAGE_LIMIT}
use Rattle.apex_types.specs.declared.message.HexFault.{HexFault}
use Rattle.apex_types.specs.declared.message.HexFault.TheVariants.{OddLength, BadDigit, TooLong}

-- the text of the empty message: `-`
abbrev pub empty_word : List ℕ
empty_word = codes "-"

-- the message that the digits encode, or the first fault
abbrev pub message_of_digits : Result (List ℕ) FromHexError → Result (List ℕ) HexFault
message_of_digits (Ok bytes) = if nat_lt MESSAGE_LIMIT (length bytes) then Err TooLong else Ok bytes
message_of_digits (Err hex.OddLength) = Err OddLength
message_of_digits (Err _) = Err BadDigit

-- the message that a hexadecimal text encodes, or its first fault
abbrev pub message_of_hex : List ℕ → Result (List ℕ) HexFault
message_of_hex text = if bytes_eq text empty_word then Ok [] else message_of_digits (decode_of text)

-- the hexadecimal text of a message, in lower case
abbrev pub hex_text_of : List ℕ → List ℕ
hex_text_of [] = empty_word
hex_text_of message = encode_lower message
