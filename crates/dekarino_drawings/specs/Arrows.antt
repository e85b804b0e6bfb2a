-- The call whose message a call showed. Calls are given by their indexes in the history, from 0.
use Rattle.std.specs.Prelude.{ℕ, Bool, ◌+◌, ◌-◌, if◌then◌else◌, List, [], ◌∷◌, ◌++◌, length, drop, slice_get, Option, Some, None, is_some}
use Rattle.dekarino_drawings.specs.Prelude.{Call, ReceiveQueuing, ReadSampling, Configuration, port_of, Entry, History, message_accepted, taken_on, sample_written}
use Rattle.apex_types.specs.declared.reply.Reply.{Reply}
use Rattle.apex_types.specs.declared.reply.Reply.TheVariants.{Received, Read}
use Rattle.apex_module.specs.declared.channel.Channel.{Channel}
use Rattle.apex_module.specs.declared.port.Port.{Port}
use Rattle.dekarino_drawings.specs.declared.arrow.Arrow.{Arrow}

-- ---- indexes

abbrev pub index_if : Bool → ℕ → List ℕ
index_if test index = if test then index ∷ [] else []

-- the indexes of the entries that pass a test; the first entry has this index
unfoldable pub indexes_from : (Entry → Bool) → ℕ → History → List ℕ
indexes_from test index [] = []
indexes_from test index (entry ∷ rest) = index_if (test entry) index ++ indexes_from test (index + 1) rest

-- ---- queuing channels

-- the calls that put a message into the channel, in order
abbrev pub sends_on : Configuration → ℕ → History → List ℕ
sends_on config channel history = indexes_from (λ entry. is_some (message_accepted config channel entry)) 0 history

-- the call that put in the message that is received next: messages are taken in the order in which they were put in, so
-- the number taken before, received or cleared, gives it
abbrev pub next_send : Configuration → History → ℕ → Option ℕ
next_send config history channel = slice_get (sends_on config channel history) (length (taken_on config channel history))

-- the calls that put in the waiting messages, oldest first
abbrev pub waiting_sends : Configuration → History → ℕ → List ℕ
waiting_sends config history channel = drop (length (taken_on config channel history)) (sends_on config channel history)

-- ---- sampling channels

-- the calls that wrote a sample into the channel, in order
abbrev pub writes_on : Configuration → ℕ → History → List ℕ
writes_on config channel history = indexes_from (λ entry. is_some (sample_written config channel entry)) 0 history

-- the call that wrote the sample that a read shows: the last write
abbrev pub last_write : Configuration → History → ℕ → Option ℕ
last_write config history channel = let writes = writes_on config channel history in slice_get writes (length writes - 1)

-- ---- arrows

-- what a channel gives, for the channel of a port, if there is such a port
abbrev pub on_channel_of : (ℕ → Option ℕ) → Option Port → Option ℕ
on_channel_of origin None = None
on_channel_of origin (Some port) = origin port.channel

-- the call whose message a partition's call showed in its reply, after a history: a receive that got a message took the
-- next one of its port's channel, and a read that got a sample showed the last one written to it
abbrev pub origin_of : Configuration → History → ℕ → Call → Reply → Option ℕ
origin_of config history partition (ReceiveQueuing id) (Received message) = on_channel_of (next_send config history) (port_of config partition id)
origin_of config history partition (ReadSampling id) (Read message validity) = on_channel_of (last_write config history) (port_of config partition id)
origin_of config history partition call reply = None

-- the arrow from one call to another, if there is the first
abbrev pub arrow_from : Option ℕ → ℕ → List Arrow
arrow_from None to = []
arrow_from (Some from) to = record { from = from; to = to } ∷ []

-- the arrows to entries that follow a history
unfoldable pub arrows_after : Configuration → History → List Entry → List Arrow
arrows_after config before [] = []
arrows_after config before (entry ∷ rest) =
    arrow_from (origin_of config before entry.partition entry.call entry.reply) (length before) ++ arrows_after config (before ++ entry ∷ []) rest

-- the arrows of a history, in the order of the calls that they lead to
abbrev pub arrows_of : Configuration → History → List Arrow
arrows_of config history = arrows_after config [] history

-- ---- the end

-- the calls that put in the messages waiting on the channels, the first of which has this number
unfoldable pub waiting_from : Configuration → History → ℕ → List Channel → List ℕ
waiting_from config history c [] = []
waiting_from config history c (channel ∷ rest) = waiting_sends config history c ++ waiting_from config history (c + 1) rest

-- the calls that put in the messages waiting on all channels
abbrev pub waiting_of : Configuration → History → List ℕ
waiting_of config history = waiting_from config history 0 config.channels
