-- A log, judged entry by entry: which departures a sink is handed, and what is counted.
use Rattle.std.specs.Prelude.{◌≡◌, ℕ, Bool, ◌+◌, ◌≤◌, ◌⊎◌, nat_lt, if◌then◌else◌, List, [], ◌∷◌, ◌++◌, Option, Some, None, option_map, Result, Ok, Err}
use Rattle.dekarino_texts.specs.Prelude.{Call, Configuration, Entry, History, instead_of, Own, none_known, entry_in_ours, own_after, replaced_in, LoggedEntry, MaxWait, entries_from, wait_of, polled_entry, as_waited, logged_request_at}
use Rattle.apex_judge.specs.declared.departure.Expected.{Expected}
use Rattle.apex_judge.specs.declared.own_ids.Replaced.{Replaced}
use Rattle.apex_judge.specs.declared.port_ids.KnownIds.{KnownIds}
use Rattle.apex_logs.specs.declared.log.FaultyLine.{FaultyLine}
use Rattle.apex_logs.specs.declared.line_source.ReadError.TheVariants as reads
use Rattle.apex_logs.specs.declared.line_source.StepError.{StepError}
use Rattle.apex_logs.specs.declared.line_source.StepError.TheVariants.{Fault, Unread}
use Rattle.dekarino_texts.specs.declared.departures.DepartureCounts.{DepartureCounts}
use Rattle.dekarino_texts.specs.declared.departures.LogPlace.{LogPlace}
use Rattle.dekarino_texts.specs.declared.departures.Reading.{Reading}
use Rattle.dekarino_texts.specs.declared.departures.SinkError.{SinkError}
use Rattle.dekarino_texts.specs.declared.departures.SinkError.TheVariants as sinks
use Rattle.dekarino_texts.specs.declared.judged_lines.JudgeError.{JudgeError}
use Rattle.dekarino_texts.specs.declared.judged_lines.JudgeError.TheVariants as stops
use Rattle.dekarino_texts.specs.Handed.{IsHanded}

-- ---- one entry

-- what is judged instead of a logged entry: the reply that its call would have got without a time-out, with our identifiers
pub record JudgedEntry : Type 0 where
  pub logged : LoggedEntry
  pub wait : MaxWait
  pub replaced : Option Replaced
  pub entry : Entry

-- a logged entry with what is judged instead, given the known identifiers of a system; a parameter says whether all calls
-- without a time-out on their line have one
abbrev pub to_judge : Configuration → Bool → Own → LoggedEntry → JudgedEntry
to_judge config all own logged = record {
  logged = logged;
  wait = wait_of all logged;
  replaced = replaced_in config own logged.entry;
  entry = polled_entry (wait_of all logged) (entry_in_ours config own logged.entry);
}

-- an entry that departs, as it was logged, with its place, its call with our identifiers, and what the standard has
pub record LoggedDeparture : Type 0 where
  pub place : LogPlace
  pub entry : Entry
  pub asked : Call
  pub expected : Expected

abbrev pub departure_in : LogPlace → Entry → Call → Expected → LoggedDeparture
departure_in place entry asked expected = record { place = place; entry = entry; asked = asked; expected = expected }

-- what was known before about the port that an entry creates or asks for
abbrev pub known_in : Option Replaced → Option KnownIds
known_in replaced = option_map (λ one. one.known) replaced

-- the place of a logged entry: the same as before, with what is known
abbrev pub place_with : LogPlace → Option Replaced → LogPlace
place_with place replaced = record { line = place.line; time_out = place.time_out; wait = place.wait; known = known_in replaced }

abbrev pub place_of : JudgedEntry → LogPlace
place_of judged = record { line = judged.logged.line; time_out = judged.logged.time_out; wait = judged.wait; known = known_in judged.replaced }

-- what the standard has for a call that may wait, by what it has for one that doesn't
abbrev pub expected_waited : MaxWait → Expected → Expected
expected_waited wait expected = record { row = expected.row; reply = as_waited wait expected.reply }

-- the departure of an entry is handed on, if it departs and fewer than `most` entries did before it
abbrev pub departures_handed : ℕ → ℕ → LogPlace → Entry → Call → Option Expected → List LoggedDeparture
departures_handed most count place entry asked None = []
departures_handed most count place entry asked (Some expected) =
    if nat_lt count most then departure_in place entry asked (expected_waited place.wait expected) ∷ [] else []

-- the counts with one more entry
abbrev pub counts_with : DepartureCounts → Option Expected → DepartureCounts
counts_with counts None = record { calls = counts.calls + 1; departures = counts.departures }
counts_with counts (Some expected) = record { calls = counts.calls + 1; departures = counts.departures + 1 }

-- ---- all entries

abbrev pub no_counts : DepartureCounts
no_counts = record { calls = 0; departures = 0 }

-- what is judged instead of the entries of a log, given what is known
unfoldable pub all_to_judge : Configuration → Bool → Own → List LoggedEntry → List JudgedEntry
all_to_judge config all own [] = []
all_to_judge config all own (logged ∷ rest) =
    to_judge config all own logged ∷ all_to_judge config all (own_after config own logged.entry) rest

-- what is judged instead of the entries of a log
abbrev pub log_to_judge : Configuration → Reading → List LoggedEntry → List JudgedEntry
log_to_judge config reading entries = all_to_judge config reading.time_outs (none_known reading.own_ids config) entries

-- the counts after the entries that follow a log; each is judged after the entries before it
unfoldable pub judged_counts_after : Configuration → History → DepartureCounts → List JudgedEntry → DepartureCounts
judged_counts_after config before counts [] = counts
judged_counts_after config before counts (judged ∷ rest) =
    judged_counts_after config (before ++ judged.entry ∷ []) (counts_with counts (instead_of config before judged.entry)) rest

-- the departures of the entries that follow a log, as far as they are handed on
unfoldable pub handed_after : Configuration → ℕ → History → DepartureCounts → List JudgedEntry → List LoggedDeparture
handed_after config most before counts [] = []
handed_after config most before counts (judged ∷ rest) =
    let instead = instead_of config before judged.entry in
    departures_handed most counts.departures (place_of judged) judged.logged.entry judged.entry.call instead
    ++ handed_after config most (before ++ judged.entry ∷ []) (counts_with counts instead) rest

-- ---- a log

-- the sink gets the first departures of the log, up to the number asked for; all entries and departures are counted
abbrev pub IsJudged : {S : Type 0} → (S → LoggedDeparture → S → Type 0) → Configuration → Reading → ℕ → Result (List LoggedEntry) FaultyLine → S → S → DepartureCounts → Type 0
IsJudged takes config reading most log before after counts =
    (entries : List LoggedEntry) × (log ≡ Ok entries)
    × IsHanded takes before (handed_after config most [] no_counts (log_to_judge config reading entries)) after
    × (counts ≡ judged_counts_after config [] no_counts (log_to_judge config reading entries))

-- the entries of a module's lines, or the first faulty one
abbrev pub log_in : Configuration → List (List ℕ) → Result (List LoggedEntry) FaultyLine
log_in config lines = entries_from (logged_request_at config) 1 lines

-- the first lines of a log are judged, and the others are not
pub record AreFirstJudged {S : Type 0} (takes : S → LoggedDeparture → S → Type 0) (config : Configuration) (reading : Reading) (most : ℕ) (lines : List (List ℕ)) (before after : S) (counts : DepartureCounts) : Type 0 where
  pub first : List (List ℕ)
  pub others : List (List ℕ)
  pub cut : lines ≡ first ++ others
  pub judged : IsJudged takes config reading most (log_in config first) before after counts

-- the log is judged to its end, or its first lines are and have as many departures as were asked for
abbrev pub IsJudgedThrough : {S : Type 0} → (S → LoggedDeparture → S → Type 0) → Configuration → Reading → ℕ → S → S → DepartureCounts → List (List ℕ) → Type 0
IsJudgedThrough takes config reading most before after counts lines =
    IsJudged takes config reading most (log_in config lines) before after counts
    ⊎ ((most ≤ counts.departures) × AreFirstJudged takes config reading most lines before after counts)

-- the first lines of a log are judged, up to the one that is faulty or can't be read; or memory or the output was refused
abbrev pub IsStoppedAt : {S : Type 0} → (S → LoggedDeparture → S → Type 0) → Configuration → Reading → ℕ → S → S → DepartureCounts → JudgeError → List (List ℕ) → Type 0
IsStoppedAt takes config reading most before after counts (stops.Line faulty) lines =
    AreFirstJudged takes config reading most lines before after counts × (log_in config lines ≡ Err faulty)
IsStoppedAt takes config reading most before after counts stops.OutOfMemory lines = Unit {0}
IsStoppedAt takes config reading most before after counts (stops.Write error) lines = Unit {0}
IsStoppedAt takes config reading most before after counts why lines =
    AreFirstJudged takes config reading most lines before after counts

-- why a log isn't judged beyond a line
abbrev pub stopped_at : ℕ → StepError → JudgeError
stopped_at line (Fault fault) = stops.Line (record { line = line; fault = fault })
stopped_at line (Unread reads.TooLong) = stops.TooLong line
stopped_at line (Unread (reads.Io error)) = stops.Read error
stopped_at line (Unread reads.OutOfMemory) = stops.OutOfMemory

abbrev pub refused_by_sink : SinkError → JudgeError
refused_by_sink sinks.OutOfMemory = stops.OutOfMemory
refused_by_sink (sinks.Io error) = stops.Write error

-- memory or the output was refused
abbrev pub NamesNoLine : JudgeError → Type 0
NamesNoLine stops.OutOfMemory = Unit {0}
NamesNoLine (stops.Write error) = Unit {0}
NamesNoLine why = ⊥
