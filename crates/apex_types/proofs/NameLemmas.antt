-- A name is ASCII, and so valid text.
use Rattle.std.proofs.Common.{◌≡◌, ℕ, zero, suc, ◌<◌, Bool, true, false, ◌&&◌, List, [], ◌∷◌, arith}
use Rattle.std.specs.List.{list_all}
use Rattle.std.specs.Str.{IsAscii}
use Rattle.std.proofs.lemmas.Bool.Decides.{nat_tests}
use Rattle.std.proofs.lemmas.Str.Ascii.{IsAscii-nil}
use Rattle.apex_types.specs.Name.{is_name_byte}

both : (a b : Bool) → (a && b) ≡ true → (a ≡ true) × (b ≡ true)
both true b h = (cc, h)
both false b h = absurd (cc)

is_name_byte-ascii : (byte : ℕ) → is_name_byte byte ≡ true → byte < 128
is_name_byte-ascii byte h = grind (arith, nat_tests)

-- each byte of a name is below 128
pub name_is_ascii : (bytes : List ℕ) → list_all is_name_byte bytes ≡ true → IsAscii bytes
name_is_ascii [] h i = IsAscii-nil i
name_is_ascii (byte ∷ bytes) h zero = is_name_byte-ascii byte (both (is_name_byte byte) (list_all is_name_byte bytes) h).0
name_is_ascii (byte ∷ bytes) h (suc i) = name_is_ascii bytes (both (is_name_byte byte) (list_all is_name_byte bytes) h).1 i
