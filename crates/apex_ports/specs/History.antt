-- Histories: the entries of a log, oldest first.
use Rattle.std.specs.Prelude.{ℕ, ◌==◌, List, map, filter}
use Rattle.apex_types.specs.declared.call.Call.{Call}
use Rattle.apex_types.specs.declared.moment.Moment.{Moment}
use Rattle.apex_types.specs.declared.reply.Reply.{Reply}
use Rattle.apex_ports.specs.declared.history.Entry.{Entry}
use Rattle.apex_ports.specs.declared.history.Request.{Request}

-- what was asked and answered, oldest first
abbrev pub History : Type 0
History = List Entry

-- the entry of one event
abbrev pub entry_of : ℕ → Moment → Call → Reply → Entry
entry_of partition at call reply = record { partition = partition; at = at; call = call; reply = reply }

-- an entry without its reply
abbrev pub request_of : Entry → Request
request_of entry = record { partition = entry.partition; at = entry.at; call = entry.call }

abbrev pub requests_of : History → List Request
requests_of history = map request_of history

-- the entries of one partition
abbrev pub entries_of : ℕ → History → History
entries_of partition history = filter (λ entry. entry.partition == partition) history
