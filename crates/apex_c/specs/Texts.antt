-- A text of any length, given to C in a buffer that may be too short for it.
use Rattle.std.specs.Prelude.{ℕ, ◌≡◌, nat_lt, if◌then◌else◌, List, length, drop, ◌++◌, Ok, Err}
use Rattle.apex_c.specs.Found.{Found}
use Rattle.apex_c.specs.declared.answer.TheConstants.{READ, SHORT_BUFFER}

-- what the reader of the text answers
abbrev pub text_answer : Found (List ℕ) → ℕ → ℕ
text_answer (Ok text) room = if nat_lt room (length text) then SHORT_BUFFER else READ
text_answer (Err number) room = number

-- the first bytes of the buffer are the text's if it has room for all of them, and the others stay
abbrev pub text_after : Found (List ℕ) → List ℕ → List ℕ
text_after (Ok text) given = if nat_lt (length given) (length text) then given else text ++ drop (length text) given
text_after (Err number) given = given

-- the length of the text, whether it was copied or not
abbrev pub text_length_after : Found (List ℕ) → ℕ → ℕ
text_length_after (Ok text) given = length text
text_length_after (Err number) given = given

-- some text is put into the buffer, and its length into its place
pub record IsText (old_buffer new_buffer : List ℕ) (new_length : ℕ) : Type 0 where
  pub text : List ℕ
  pub buffer : new_buffer ≡ text_after (Ok text) old_buffer
  pub length : new_length ≡ length text

-- it is so if something is found, and the answer says whether the buffer has room; or else nothing changes
abbrev pub IsTextFor : {X : Type 0} → Found X → ℕ → List ℕ → ℕ → List ℕ → ℕ → Type 0
IsTextFor (Ok found) answer old_buffer old_length new_buffer new_length =
    IsText old_buffer new_buffer new_length × (answer ≡ (if nat_lt (length old_buffer) new_length then SHORT_BUFFER else READ))
IsTextFor (Err number) answer old_buffer old_length new_buffer new_length =
    (answer ≡ number) × ((new_buffer ≡ old_buffer) × (new_length ≡ old_length))
