-- Replies whose messages are among stored ones.
use Rattle.std.specs.Prelude.{ℕ, ◌≡◌, ◌<◌, List, slice_get, Some}
use Rattle.apex_types.specs.declared.reply.Reply.{Reply}
use Rattle.apex_types.specs.declared.reply.Reply.TheVariants as reply
use Rattle.apex_threads.specs.declared.packed.Packed.{Packed}
use Rattle.apex_threads.specs.declared.packed.Packed.TheVariants as packed
use Rattle.apex_threads.specs.PackedCalls.{stored_at}

-- the reply, with its message from these
abbrev pub reply_in : List (List ℕ) → Packed → Reply
reply_in messages packed.NotMade = reply.NotMade
reply_in messages (packed.Code code) = reply.Code code
reply_in messages (packed.Id id) = reply.Id id
reply_in messages (packed.Received message) = reply.Received (stored_at messages message)
reply_in messages (packed.Read message validity) = reply.Read (stored_at messages message) validity
reply_in messages (packed.QueuingStatus waiting depth size direction) = reply.QueuingStatus waiting depth size direction
reply_in messages (packed.SamplingStatus refresh size direction last) = reply.SamplingStatus refresh size direction last

-- the reply's message is one of this number of messages
abbrev pub IsPacked : ℕ → Packed → Type 0
IsPacked messages (packed.Received message) = message < messages
IsPacked messages (packed.Read message validity) = message < messages
IsPacked messages other = Unit {0}

-- this holds for all replies
abbrev pub ArePacked : ℕ → List Packed → Type 0
ArePacked messages replies = (k : ℕ) (reply : Packed) → slice_get replies k ≡ Some reply → IsPacked messages reply
