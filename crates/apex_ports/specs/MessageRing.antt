-- The messages of a ring, by their places and the bytes of the slots.
use Rattle.std.specs.Prelude.{ℕ, ◌≡◌, ◌+◌, ◌-◌, ◌*◌, ◌^◌, ◌<◌, ◌≤◌, List, ◌++◌, length, take, drop, map, slice_get, Some}
use Rattle.apex_types.specs.declared.message.TheConstants.{MESSAGE_LIMIT}
use Rattle.apex_ports.specs.declared.message_ring.Place.{Place}

-- the messages, oldest first, the maximum number of them, and the maximum length of each, in bytes
pub record Messages : Type 0 where
  pub items : List (List ℕ)
  pub capacity : ℕ
  pub size : ℕ

abbrev pub messages : List (List ℕ) → ℕ → ℕ → Messages
messages items capacity size = record { items = items; capacity = capacity; size = size }

-- no message is longer than the size
abbrev pub AreShort : ℕ → List (List ℕ) → Type 0
AreShort size items = (k : ℕ) (message : List ℕ) → slice_get items k ≡ Some message → length message ≤ size

-- the message at a place
abbrev pub message_at : ℕ → List ℕ → Place → List ℕ
message_at size slots place = take place.length (drop (place.slot * size) slots)

abbrev pub messages_at : ℕ → List ℕ → List Place → List (List ℕ)
messages_at size slots places = map (message_at size slots) places

-- the bytes, with a message written from this index on
abbrev pub with_message : List ℕ → ℕ → List ℕ → List ℕ
with_message slots start message = take start slots ++ (message ++ drop (length message) (drop start slots))

-- the place is this number of slots before the next slot to fill, where the first slot follows the last
pub record IsPlaced (depth size next steps : ℕ) (place : Place) : Type 0 where
  pub short : place.length ≤ size
  pub within : place.slot < depth
  pub below : place.slot < next → place.slot + steps ≡ next
  pub above : next ≤ place.slot → place.slot + steps ≡ next + depth

-- the messages have consecutive slots, where the first slot follows the last, up to the next slot to fill
pub record IsRing (depth size next : ℕ) (slots : List ℕ) (places : List Place) : Type 0 where
  pub small : depth < 2 ^ 32
  pub wide : size ≤ MESSAGE_LIMIT
  pub room : length slots ≡ depth * size
  pub next_slot : 0 < depth → next < depth
  pub placed : (k : ℕ) (place : Place) → slice_get places k ≡ Some place → IsPlaced depth size next (length places - k) place
