-- Hashes of points, made only of counts.
use Rattle.std.specs.Prelude.{ℕ, zero, suc, ◌+◌, ◌*◌, ◌%◌, ◌^◌, List, length, slice_get, slice_index_or, Option, Some, None}
use Rattle.apex_orders.specs.Prelude.{Configuration, ports_of, accepted_on, received_on, waiting_on, count_of, History, entries_of}
use Rattle.apex_types.specs.Validity.{number_of}
use Rattle.apex_orders.specs.States.{last_shown}

-- the hash extended by one number
abbrev pub mix : ℕ → ℕ → ℕ
mix hash count = ((hash * 1000003) % 2 ^ 64 + count) % 2 ^ 64

-- the counts of calls of the first partitions
abbrev pub calls_below : ℕ → History → ℕ
calls_below zero history = 0
calls_below (suc p) history = mix (calls_below p history) (count_of (entries_of p history))

abbrev pub calls_hash : Configuration → History → ℕ
calls_hash config history = calls_below (length config.partitions) history

-- ---- the last validity that ports show

-- extended by that of the partition's first ports
abbrev pub shown_below : Configuration → History → ℕ → ℕ → ℕ → ℕ
shown_below config history p hash zero = hash
shown_below config history p hash (suc i) =
    mix (shown_below config history p hash i) (number_of (last_shown config history p (i + 1)))

abbrev pub shown_from : Configuration → History → ℕ → ℕ → ℕ
shown_from config history p hash = shown_below config history p hash (length (ports_of config p))

-- extended by that of all ports of the first partitions
abbrev pub all_shown_below : Configuration → History → ℕ → ℕ
all_shown_below config history zero = calls_hash config history
all_shown_below config history (suc p) = shown_from config history p (all_shown_below config history p)

abbrev pub shown_hash : Configuration → History → ℕ
shown_hash config history = all_shown_below config history (length config.partitions)

-- ---- waiting messages

-- extended by the first bytes of a message
abbrev pub bytes_below : List ℕ → ℕ → ℕ → ℕ
bytes_below bytes hash zero = hash
bytes_below bytes hash (suc i) = mix (bytes_below bytes hash i) (slice_index_or bytes i 0)

abbrev pub bytes_hash : ℕ → List ℕ → ℕ
bytes_hash hash bytes = bytes_below bytes (mix hash (length bytes)) (length bytes)

abbrev pub message_hash : ℕ → Option (List ℕ) → ℕ
message_hash hash None = hash
message_hash hash (Some bytes) = bytes_hash hash bytes

-- extended by the first messages
abbrev pub messages_below : List (List ℕ) → ℕ → ℕ → ℕ
messages_below messages hash zero = hash
messages_below messages hash (suc i) = message_hash (messages_below messages hash i) (slice_get messages i)

abbrev pub messages_hash : ℕ → List (List ℕ) → ℕ
messages_hash hash messages = messages_below messages hash (length messages)

-- ---- the whole

-- extended by the counts of messages of the first channels, with the messages that wait on them
abbrev pub channels_below : Configuration → ℕ → ℕ → History → ℕ
channels_below config hash zero history = hash
channels_below config hash (suc c) history =
    messages_hash
    (mix (mix (channels_below config hash c history) (count_of (accepted_on config c history)))
    (count_of (received_on config c history)))
    (waiting_on config c history)

-- the hash of the point that a history leads to
abbrev pub hash_of : Configuration → History → ℕ
hash_of config history = channels_below config (shown_hash config history) (length config.channels) history
