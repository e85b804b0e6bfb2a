-- Where a log departs from the standard: every entry is judged after what the entries before it show.
use Rattle.std.specs.Prelude.{ℕ, if◌then◌else◌, List, [], ◌∷◌, ◌++◌, length, Option, Some, None}
use Rattle.apex_judge.specs.Prelude.{Configuration, Entry, History}
use Rattle.apex_judge.specs.declared.departure.Departure.{Departure}
use Rattle.apex_judge.specs.declared.departure.Expected.{Expected}
use Rattle.apex_judge.specs.Replies.{agrees}
use Rattle.apex_judge.specs.Shown.{row_shown, reply_shown}

-- what the standard has for the call of an entry
abbrev pub expected_of : Configuration → History → Entry → Expected
expected_of config before entry = record {
  row = row_shown config before entry.partition entry.at entry.call;
  reply = reply_shown config before entry.partition entry.at entry.call;
}

-- what the standard has instead of the logged reply, if they differ
abbrev pub instead_of : Configuration → History → Entry → Option Expected
instead_of config before entry =
    if agrees (reply_shown config before entry.partition entry.at entry.call) entry.reply then None
    else Some (expected_of config before entry)

-- the departure of the entry at an index, if it is one
abbrev pub departure_at : ℕ → Option Expected → List Departure
departure_at index None = []
departure_at index (Some expected) = record { index = index; expected = expected } ∷ []

-- the departures of entries that follow a log
abbrev pub departures_after : Configuration → History → List Entry → List Departure
departures_after config before [] = []
departures_after config before (entry ∷ rest) =
    departure_at (length before) (instead_of config before entry) ++ departures_after config (before ++ entry ∷ []) rest

-- the departures of a log, in order
abbrev pub departures_of : Configuration → History → List Departure
departures_of config log = departures_after config [] log
