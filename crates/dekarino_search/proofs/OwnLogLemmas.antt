-- An entry more of a partition's own log, as a loop reads them.
use Rattle.std.proofs.Common.{◌≡◌, ℕ, Bool, ◌+◌, List, [], ◌∷◌, ◌++◌, map, Some, Result, Ok, Err, refl, sym, ap, ◌∙◌, append_assoc}
use Rattle.std.proofs.lemmas.List.{map-append}
use Rattle.apex_ports.specs.declared.history.Entry.{Entry}
use Rattle.apex_ports.specs.History.{History}
use Rattle.apex_logs.specs.declared.log.FaultyLine.{FaultyLine}
use Rattle.apex_logs.specs.declared.log.LoggedEntry.{LoggedEntry}
use Rattle.apex_logs.specs.declared.time_out.TimeOut.{TimeOut}
use Rattle.apex_logs.specs.Log.{before}
use Rattle.apex_logs.specs.Polled.{polled, polled_entry}
use Rattle.apex_logs.specs.TimeOut.{max_wait_of}
use Rattle.apex_logs.proofs.LogLemmas.{with_front}

-- the entries were read, and with them what is still read is the whole
abbrev pub IsReadSoFar : Bool → History → Result (List LoggedEntry) FaultyLine → Result (List LoggedEntry) FaultyLine → Type 0
IsReadSoFar all entries left whole = (done : List LoggedEntry) × (entries ≡ map (λ one. polled all one) done) × (with_front done left ≡ whole)

front_more : (front : List LoggedEntry) (line : ℕ) (entry : Entry) (time_out : TimeOut) (after : Result (List LoggedEntry) FaultyLine)
    → with_front (front ++ record { line = line; entry = entry; time_out = time_out } ∷ []) after ≡ with_front front (before line (Ok (Some (entry, time_out))) after)
front_more front line entry time_out (Ok entries) = ap (λ (es : List LoggedEntry). Ok es) (append_assoc front (record { line = line; entry = entry; time_out = time_out } ∷ []) entries)
front_more front line entry time_out (Err faulty) = refl

pub read_more : (all : Bool) (entries more : History) (left whole after : Result (List LoggedEntry) FaultyLine) (line : ℕ) (entry : Entry) (time_out : TimeOut)
    → IsReadSoFar all entries left whole → left ≡ before line (Ok (Some (entry, time_out))) after
    → more ≡ entries ++ polled_entry (max_wait_of all entry.call time_out) entry ∷ [] → IsReadSoFar all more after whole
read_more all entries more left whole after line entry time_out (done, same, read) next push = (
  done ++ record { line = line; entry = entry; time_out = time_out } ∷ [],
  push ∙ ap (λ (es : History). es ++ polled_entry (max_wait_of all entry.call time_out) entry ∷ []) same ∙ sym (map-append (λ (one : LoggedEntry). polled all one) done (record { line = line; entry = entry; time_out = time_out } ∷ [])),
  front_more done line entry time_out after ∙ sym (ap (λ (r : Result (List LoggedEntry) FaultyLine). with_front done r) next) ∙ read,
)
