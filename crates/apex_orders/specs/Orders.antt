-- Orders of the calls of scripts, and the histories that they lead to.
use Rattle.std.specs.Prelude.{ℕ, ◌≡◌, ◌<◌, ◌≤◌, ◌-◌, ◌^◌, List, [], ◌∷◌, ◌++◌, length, map, take, count_by, ◌==◌, slice_get, slice_index_or, unwrap_or, Option, Some, None}
use Rattle.apex_orders.specs.Prelude.{Call, Moment, Reply, Configuration, Entry, History, entry_of, entries_of, IsLawful, reply_to}

-- ---- merges

-- the calls of each partition, in order, each with its moment
abbrev pub Scripts : Type 0
Scripts = List (List (Moment × Call))

-- the script of a partition; no calls if it has none
abbrev pub script_of : Scripts → ℕ → List (Moment × Call)
script_of scripts p = unwrap_or (slice_get scripts p) []

-- no script has more calls than can be counted
abbrev pub AreShort : Configuration → Scripts → Type 0
AreShort config scripts = (p : ℕ) → p < length config.partitions → length (script_of scripts p) ≤ 2 ^ 64 - 1

-- the calls that the partition made, in order, each with its moment
abbrev pub calls_of : ℕ → History → List (Moment × Call)
calls_of p history = map (λ entry. (entry.at, entry.call)) (entries_of p history)

-- the replies that the partition got, in order
abbrev pub replies_of : ℕ → History → List Reply
replies_of p history = map (λ entry. entry.reply) (entries_of p history)

-- a lawful history in which the calls of each partition are a prefix of its script
pub record IsBeginning (config : Configuration) (scripts : Scripts) (history : History) : Type 0 where
  pub lawful : IsLawful config history
  pub calls : (p : ℕ) → calls_of p history ≡ take (length (calls_of p history)) (script_of scripts p)

-- a lawful history in which each partition made all calls of its script
pub record IsWay (config : Configuration) (scripts : Scripts) (history : History) : Type 0 where
  pub lawful : IsLawful config history
  pub calls : (p : ℕ) → calls_of p history ≡ script_of scripts p

-- the partitions that made the calls, in order
abbrev pub order_of : History → List ℕ
order_of history = map (λ entry. entry.partition) history

-- ---- the history of an order

-- each number is a partition of the configuration
abbrev pub IsOrder : Configuration → List ℕ → Type 0
IsOrder config order = (k p : ℕ) → slice_get order k ≡ Some p → p < length config.partitions

-- the order at the index; no calls if there is none
abbrev pub order_at : List (List ℕ) → ℕ → List ℕ
order_at orders k = slice_index_or orders k []

-- the number of calls that are the partition's
abbrev pub times : ℕ → List ℕ → ℕ
times p order = count_by (λ partition. partition == p) order

abbrev pub entries_for : Configuration → History → ℕ → Option (Moment × Call) → List Entry
entries_for config history p None = []
entries_for config history p (Some timed) =
    entry_of p timed.0 timed.1 (reply_to config history p timed.0 timed.1) ∷ []

-- the entry of the partition's next call, if its script has one
abbrev pub next_entries : Configuration → Scripts → History → ℕ → List Entry
next_entries config scripts history p =
    entries_for config history p (slice_get (script_of scripts p) (length (entries_of p history)))

-- the history that continues another by the calls of these partitions
abbrev pub continued : Configuration → Scripts → History → List ℕ → History
continued config scripts history [] = history
continued config scripts history (p ∷ order) =
    continued config scripts (history ++ next_entries config scripts history p) order

-- the history of an order
abbrev pub history_of : Configuration → Scripts → List ℕ → History
history_of config scripts order = continued config scripts [] order
