-- Messages that are parts of one list of bytes.
use Rattle.std.specs.Prelude.{ℕ, ◌≡◌, ◌+◌, ◌-◌, ◌≤◌, List, take, drop, slice_get, Some}
use Rattle.apex_types.specs.declared.message.TheConstants.{MESSAGE_LIMIT}
use Rattle.apex_ports.specs.declared.stored_messages.Part.{Part}

-- the message whose bytes are the part
abbrev pub message_of : List ℕ → Part → List ℕ
message_of bytes part = take (part.to - part.from) (drop part.from bytes)

-- the part lies within this number of bytes, and is no longer than a message
pub record IsPart (len : ℕ) (part : Part) : Type 0 where
  pub ordered : part.from ≤ part.to
  pub within : part.to ≤ len
  pub short : part.to ≤ part.from + MESSAGE_LIMIT

-- this holds for all parts
abbrev pub AreParts : ℕ → List Part → Type 0
AreParts len parts = (k : ℕ) (part : Part) → slice_get parts k ≡ Some part → IsPart len part
