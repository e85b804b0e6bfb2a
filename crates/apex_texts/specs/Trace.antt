-- The meaning of a trace: the requests of its lines in order, or its first faulty line.
use Rattle.std.specs.Prelude.{ℕ, ◌<◌, List, length, All, Result, Ok}
use Rattle.apex_texts.specs.Prelude.{Configuration, partition_named, Request}
use Rattle.std.specs.Global.{Vec}
use Rattle.apex_texts.specs.declared.line_fault.LineFault.{LineFault}
use Rattle.apex_texts.specs.declared.line_fault.LineFault.TheVariants as faults
use Rattle.apex_texts.specs.declared.fault.TraceFault.{TraceFault}
use Rattle.apex_texts.specs.Arguments.{◌>>=◌, or_fault, word_at, moment_of, call_of}
use Rattle.apex_texts.specs.Lines.{FaultyLine, items_of, IsRead}

-- PARTITION: the index of the partition with this word as its name
abbrev pub partition_of : Configuration → List ℕ → Result ℕ LineFault
partition_of config word = or_fault faults.Partition (partition_named config word)

-- MOMENT PARTITION CALL ARGUMENTS, with the faults in the order in which a line is read
unfoldable pub request_at : Configuration → List ℕ → List (List ℕ) → Result Request LineFault
request_at config moment words = do
  partition ← word_at words
  call ← word_at partition.1
  at ← moment_of moment
  p ← partition_of config partition.0
  asked ← call_of call.0 call.1
  Ok (record { partition = p; at = at; call = asked })

-- the requests of a trace, or its first faulty line
abbrev pub trace_of : Configuration → List ℕ → Result (List Request) FaultyLine
trace_of config text = items_of (request_at config) text

-- what a reader returned is the meaning of the trace, unless memory ran out
abbrev pub IsTraceRead : Result (Vec Request) TraceFault → Result (List Request) FaultyLine → Type 0
IsTraceRead answer meaning = IsRead (λ requests. requests.items) answer meaning

-- each request has a partition of the configuration
abbrev pub HavePartitions : Configuration → List Request → Type 0
HavePartitions config requests = All (λ request. request.partition < length config.partitions) requests
