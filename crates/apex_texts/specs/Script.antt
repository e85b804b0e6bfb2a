-- The meaning of a script: the calls of its lines in order, each with its moment, or its first faulty line. A script's
-- line is a trace's line without the partition.
use Rattle.std.specs.Prelude.{ℕ, List, Result, Ok}
use Rattle.apex_texts.specs.Prelude.{Call, Moment}
use Rattle.apex_texts.specs.declared.line_fault.LineFault.{LineFault}
use Rattle.apex_texts.specs.declared.fault.TraceFault.{TraceFault}
use Rattle.apex_texts.specs.Arguments.{◌>>=◌, word_at, moment_of, call_of}
use Rattle.apex_texts.specs.Lines.{FaultyLine, items_of, IsRead}

-- MOMENT CALL ARGUMENTS, with the faults in the order in which a line is read
unfoldable pub timed_call_at : List ℕ → List (List ℕ) → Result (Moment × Call) LineFault
timed_call_at moment words = do
  call ← word_at words
  at ← moment_of moment
  asked ← call_of call.0 call.1
  Ok (at, asked)

-- the calls of a script, or its first faulty line
abbrev pub script_of : List ℕ → Result (List (Moment × Call)) FaultyLine
script_of text = items_of timed_call_at text

-- what a reader returned is the meaning of the script, unless memory ran out
abbrev pub IsScriptRead : Result (List (Moment × Call)) TraceFault → Result (List (Moment × Call)) FaultyLine → Type 0
IsScriptRead answer meaning = IsRead (λ calls. calls) answer meaning
