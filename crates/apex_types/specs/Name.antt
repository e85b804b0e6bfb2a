-- The names of partitions, ports and channels. A name is the list of its bytes.
use Rattle.std.specs.Prelude.{ℕ, Bool, ◌≡◌, ◌<◌, ◌≤◌, true, ◌==◌, ◌&&◌, ◌||◌, nat_le, nat_lt, if◌then◌else◌, List, length, Result, Ok, Err}
use Rattle.std.specs.List.{list_all}
use Rattle.apex_types.specs.declared.name.TheConstants.{NAME_LIMIT}
use Rattle.apex_types.specs.declared.name.NameFault.{NameFault}
use Rattle.apex_types.specs.declared.name.NameFault.TheVariants.{Empty, TooLong, BadCharacter}

-- an ASCII letter, a digit or `_`
abbrev pub is_name_byte : ℕ → Bool
is_name_byte byte = (nat_le 65 byte && nat_le byte 90) || (nat_le 97 byte && nat_le byte 122) || (nat_le 48 byte && nat_le byte 57) || (byte == 95)

-- 1 to 30 letters, digits and `_`
pub record IsName (bytes : List ℕ) : Type 0 where
  pub not_empty : 0 < length bytes
  pub short : length bytes ≤ NAME_LIMIT
  pub characters : list_all is_name_byte bytes ≡ true

-- the name that a text gives, or its first fault
abbrev pub name_of : List ℕ → Result (List ℕ) NameFault
name_of text =
    if length text == 0 then Err Empty
    else if nat_lt NAME_LIMIT (length text) then Err TooLong
    else if list_all is_name_byte text then Ok text
    else Err BadCharacter
