-- What waits on a queuing channel after an entry, lawful or not.
use Rattle.std.specs.Prelude.{ℕ, Bool, true, false, ◌&&◌, ◌||◌, ◌+◌, if◌then◌else◌, List, [], ◌++◌, drop, position, Option, Some, None}
use Rattle.apex_judge.specs.Prelude.{option_to_list, bytes_eq, Reply, Code, ReturnCode, NotAvailable, Configuration, Entry, message_accepted, message_received, is_receive, clears}

abbrev pub is_not_available : ReturnCode → Bool
is_not_available NotAvailable = true
is_not_available _ = false

-- the bare answer NOT_AVAILABLE
abbrev pub is_code_not_available : Reply → Bool
is_code_not_available (Code code) = is_not_available code
is_code_not_available _ = false

-- a receive at the channel's destination that found no message
abbrev pub finds_none : Configuration → ℕ → Entry → Bool
finds_none config channel entry = is_code_not_available entry.reply && is_receive config channel entry.partition entry.call

-- after the entry nothing waits on the channel: it was cleared, or a receive found no message
abbrev pub empties : Configuration → ℕ → Entry → Bool
empties config channel entry = clears config channel entry || finds_none config channel entry

-- what waits behind the message at the index; all if there is none
abbrev pub behind : Option ℕ → List (List ℕ) → List (List ℕ)
behind None waiting = waiting
behind (Some index) waiting = drop (index + 1) waiting

-- what is left when a message is received: the first one with its bytes and all before it are taken, none if none has them
abbrev pub left_after : Option (List ℕ) → List (List ℕ) → List (List ℕ)
left_after None waiting = waiting
left_after (Some message) waiting = behind (position (λ one. bytes_eq one message) waiting) waiting

-- what waits on the channel after an entry
abbrev pub waiting_after : Configuration → ℕ → List (List ℕ) → Entry → List (List ℕ)
waiting_after config channel waiting entry =
    if empties config channel entry then []
    else left_after (message_received config channel entry) waiting ++ option_to_list (message_accepted config channel entry)
