-- What is noted of the calls of a trace, for the remarks.
use Rattle.std.specs.Prelude.{◌≡◌, ℕ, Bool, false, ◌==◌, ◌&&◌, List, [], ◌∷◌, length, Option, Some, None}
use Rattle.dekarino_texts.specs.Prelude.{list_any, Moment, Configuration, History, creates}
use Rattle.dekarino_texts.specs.declared.notes.Notes.{Notes}
use Rattle.dekarino_texts.specs.declared.port_notes.PortKey.{PortKey}
use Rattle.dekarino_texts.specs.declared.port_notes.PortNotes.{PortNotes}
use Rattle.dekarino_texts.specs.Remarks.{LineEntry, history_of, moment_remarks, idle_remarks, shows_sample, start}

-- ---- ports

-- the key is that of the port
abbrev pub is_port : ℕ → ℕ → PortKey → Bool
is_port p id port = (port.partition == p) && (port.id == id)

-- there is a key, and it is that of the port
abbrev pub is_some_port : ℕ → ℕ → Option PortKey → Bool
is_some_port p id None = false
is_some_port p id (Some port) = is_port p id port

-- the port is among these
abbrev pub has_port : ℕ → ℕ → List PortKey → Bool
has_port p id ports = list_any (is_port p id) ports

-- the ports are those that the history created, and those at which it read a sample
pub record ArePortsNoted (history : History) (notes : PortNotes) : Type 0 where
  pub created : (p id : ℕ) → has_port p id notes.created.items ≡ list_any (creates p id) history
  pub read : (p id : ℕ) → has_port p id notes.read.items ≡ list_any (shows_sample p id) history

-- ---- calls

-- the moment of the last of these entries, which follow one at this moment
abbrev pub last_moment : Moment → List LineEntry → Moment
last_moment last [] = last
last_moment last (one ∷ rest) = last_moment one.entry.at rest

-- the notes are those of the entries
pub record AreNoted (config : Configuration) (log : List LineEntry) (notes : Notes) : Type 0 where
  pub calls : notes.calls ≡ length log
  pub last : notes.last ≡ last_moment start log
  pub earlier : notes.earlier.items ≡ moment_remarks start log
  pub not_made : notes.not_made.items ≡ idle_remarks config log
  pub ports : ArePortsNoted (history_of log) notes.ports
