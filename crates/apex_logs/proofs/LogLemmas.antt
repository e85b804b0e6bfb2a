-- Lines of a log one after the other, as a loop reads them.
use Rattle.apex_logs.proofs.Common.{◌≡◌, ℕ, ◌+◌, true, false, List, [], ◌∷◌, ◌++◌, Option, Result, Ok, refl, entry_of_line, ends_calls, before, entries_from}
use Rattle.apex_ports.specs.declared.history.Entry.{Entry}
use Rattle.apex_ports.specs.declared.history.Request.{Request}
use Rattle.apex_texts.specs.declared.line_fault.LineFault.{LineFault}
use Rattle.apex_texts.specs.Arguments.{◌>>=◌}
use Rattle.apex_logs.specs.declared.log.FaultyLine.{FaultyLine}
use Rattle.apex_logs.specs.declared.log.LoggedEntry.{LoggedEntry}
use Rattle.apex_logs.specs.declared.log_fault.LogFault.{LogFault}
use Rattle.apex_logs.specs.declared.time_out.TimeOut.{TimeOut}

module _ (asked_by : List ℕ → List (List ℕ) → Result (Request × TimeOut) LineFault) (number : ℕ) where
  -- at a line with what it is read as
  pub reads : (lines : List (List ℕ)) (line : List ℕ) (rest : List (List ℕ)) (read : Result (Option (Entry × TimeOut)) LogFault) → lines ≡ line ∷ rest → ends_calls line ≡ false → entry_of_line asked_by line ≡ read
      → entries_from asked_by number lines ≡ before number read (entries_from asked_by (number + 1) rest)
  unfolding entries_from
  reads lines line rest read cut goes is = rw (cut, goes, is) refl

  -- at a line that ends the calls
  pub ends : (lines : List (List ℕ)) (line : List ℕ) (rest : List (List ℕ)) → lines ≡ line ∷ rest → ends_calls line ≡ true → entries_from asked_by number lines ≡ Ok []
  unfolding entries_from
  ends lines line rest cut is = rw (cut, is) refl

  -- after the last line
  pub has_no_line : (lines : List (List ℕ)) → lines ≡ [] → entries_from asked_by number lines ≡ Ok []
  unfolding entries_from
  has_no_line lines cut = rw cut refl

-- what was read before, and what is still read
abbrev pub with_front : List LoggedEntry → Result (List LoggedEntry) FaultyLine → Result (List LoggedEntry) FaultyLine
with_front front read = read >>= λ entries. Ok (front ++ entries)
