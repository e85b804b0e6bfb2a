-- Names and messages are ASCII, so bytes that are not UTF-8 are neither.
use Rattle.apex_texts.proofs.Common.{◌≡◌, ℕ, List, None, Result, Ok, Err, refl, IsUtf8, message_of_hex, value_of, name_in, message_in}
use Rattle.std.proofs.lemmas.Str.{IsUtf8-from_ascii}
use Rattle.apex_types.proofs.ReadText.{read_name_is_ascii, read_message_is_ascii}
use Rattle.apex_types.specs.Name.{name_of}
use Rattle.apex_types.specs.declared.message.HexFault.{HexFault}
use Rattle.apex_types.specs.declared.name.NameFault.{NameFault}

no_name : (word : List ℕ) (read : Result (List ℕ) NameFault) → name_of word ≡ read → (IsUtf8 word → ⊥) → value_of read ≡ None
no_name word (Ok name) is broken = absurd (broken (IsUtf8-from_ascii word (read_name_is_ascii word name is)))
no_name word (Err fault) is broken = refl

pub name_missed : (word : List ℕ) → (IsUtf8 word → ⊥) → name_in word ≡ None
name_missed word broken = no_name word (name_of word) refl broken

no_message : (word : List ℕ) (read : Result (List ℕ) HexFault) → message_of_hex word ≡ read → (IsUtf8 word → ⊥) → value_of read ≡ None
no_message word (Ok message) is broken = absurd (broken (IsUtf8-from_ascii word (read_message_is_ascii word message is)))
no_message word (Err fault) is broken = refl

pub message_missed : (word : List ℕ) → (IsUtf8 word → ⊥) → message_in word ≡ None
message_missed word broken = no_message word (message_of_hex word) refl broken
