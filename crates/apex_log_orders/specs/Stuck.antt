-- Beginnings that no order continues or leads past: whatever was called before, none of the calls that are next in
-- their logs can be made without one of the others.
use Rattle.std.specs.Prelude.{ℕ, ◌≡◌, ◌≤◌, ◌<◌, Bool, true, false, List, length, slice_get, Some}
use Rattle.apex_log_orders.specs.Prelude.{Call, SendQueuing, ReceiveQueuing, QueuingStatus, ReadSampling, Direction, Configuration, port_of, is_queuing_port, Port, Entry, message_written, History, entries_of, HasNoClear, is_code_not_available}
use Rattle.apex_log_orders.specs.declared.answer.CallPlace.{CallPlace}
use Rattle.apex_log_orders.specs.LogOrders.{Logs, log_in, IsBeginning, entry_at}
use Rattle.apex_log_orders.specs.Walking.{HasNoWay, next_of}

-- no partition made more calls than in the other history
abbrev pub IsWithin : History → History → Type 0
IsWithin history front = (p : ℕ) → length (entries_of p history) ≤ length (entries_of p front)

-- no order continues with the partition's next call as long as no partition made more calls than in this beginning
abbrev pub NeverNext : Configuration → Logs → History → ℕ → Type 0
NeverNext config logs front p = (history : History) → IsBeginning config logs history → IsWithin history front
    → length (entries_of p history) ≡ length (entries_of p front) → HasNoWay config logs history p

-- no partition called CLEAR_QUEUING_PORT
abbrev pub HaveNoClear : Logs → Type 0
HaveNoClear logs = (p : ℕ) → HasNoClear (log_in logs p)

-- the call sends a message or receives one (SEND_QUEUING_MESSAGE, RECEIVE_QUEUING_MESSAGE)
abbrev pub is_transfer : Call → Bool
is_transfer (SendQueuing id message) = true
is_transfer (ReceiveQueuing id) = true
is_transfer _ = false

-- the other partitions don't affect the reply: it depends on no waiting message, and on no sample
abbrev pub is_own : Call → Bool
is_own (SendQueuing id message) = false
is_own (ReceiveQueuing id) = false
is_own (QueuingStatus id) = false
is_own (ReadSampling id) = false
is_own _ = true

-- the partition's port is this end of a queuing channel
pub record IsEnd (config : Configuration) (c p id : ℕ) (port : Port) (way : Direction) : Type 0 where
  pub here : port_of config p id ≡ Some port
  pub direction : port.direction ≡ way
  pub channel : port.channel ≡ c
  pub kind : is_queuing_port port.kind ≡ true

abbrev pub HasEnd : Configuration → ℕ → ℕ → ℕ → Direction → Type 0
HasEnd config c p id way = (port : Port) × IsEnd config c p id port way

-- a partition's next call, which found a message or room, and a call to come that found none
pub record ArePair (logs : Logs) (front : History) (p : ℕ) (entry : Entry) (place : CallPlace) (later : Entry) : Type 0 where
  pub next : next_of logs front p ≡ Some entry
  pub own : entry.partition ≡ p
  pub found : is_code_not_available entry.reply ≡ false
  pub here : entry_at logs place ≡ Some later
  pub to_come : length (entries_of place.partition front) ≤ place.index
  pub none : is_code_not_available later.reply ≡ true

-- the entry requests to write these bytes to the channel (WRITE_SAMPLING_MESSAGE at the channel's source)
abbrev pub Writes : Configuration → ℕ → List ℕ → Entry → Type 0
Writes config c bytes entry = message_written config c entry.partition entry.call ≡ Some bytes

-- none of the entries from one index up to another requests this
abbrev pub NoneWrites : Configuration → ℕ → List ℕ → History → ℕ → ℕ → Type 0
NoneWrites config c bytes log first past =
    (k : ℕ) (entry : Entry) → first ≤ k → k < past → slice_get log k ≡ Some entry → ¬ Writes config c bytes entry
