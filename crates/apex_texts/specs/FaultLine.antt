-- The printed lines for refused texts.
use Rattle.std.specs.Prelude.{ℕ, List, [], ◌++◌, codes, decimal, Option, Some, None}
use Rattle.apex_texts.specs.Prelude.{ConfigFault}
use Rattle.apex_module.specs.Fault.{pass_of}
use Rattle.apex_module.specs.declared.fault.ConfigFault.TheVariants as config_faults
use Rattle.apex_ports.specs.declared.run_fault.RunFault.{RunFault}
use Rattle.apex_ports.specs.declared.run_fault.RunFault.TheVariants as run_faults
use Rattle.apex_texts.specs.declared.line_fault.LineFault.{LineFault}
use Rattle.apex_texts.specs.declared.fault.TraceFault.{TraceFault}
use Rattle.apex_texts.specs.declared.fault.TraceFault.TheVariants as trace_faults
use Rattle.apex_texts.specs.declared.fault.Fault.{Fault}
use Rattle.apex_texts.specs.declared.fault.Fault.TheVariants as faults
use Rattle.apex_texts.specs.LineFault.{fault_numbered, fault_words}

-- out of memory, wherever it happened
abbrev pub memory_line : List ℕ
memory_line = codes "out of memory"

-- the words for a configuration's fault
abbrev pub config_words : ConfigFault → List ℕ
config_words config_faults.NotToml = codes "not TOML"
config_words config_faults.Shape = codes "shape"
config_words config_faults.BadName = codes "name"
config_words config_faults.NameTwice = codes "name twice"
config_words config_faults.OutOfRange = codes "number out of range"
config_words config_faults.UnknownChannel = codes "unknown channel"
config_words config_faults.KindDiffers = codes "kind of port and channel differ"
config_words config_faults.Sources = codes "not exactly one source"
config_words config_faults.Destinations = codes "destinations"
config_words config_faults.Counts = codes "count out of limits"
config_words config_faults.OutOfMemory = memory_line

-- `config fault N: WORDS`; only the words if the fault has no number
abbrev pub numbered_line : Option ℕ → List ℕ → List ℕ
numbered_line (Some number) words = codes "config fault " ++ decimal number ++ codes ": " ++ words
numbered_line None words = words

abbrev pub config_line : ConfigFault → List ℕ
config_line fault = numbered_line (pass_of fault) (config_words fault)

-- `: WORDS`, if a fault has the number
abbrev pub words_after : Option LineFault → List ℕ
words_after (Some fault) = codes ": " ++ fault_words fault
words_after None = []

-- `line L fault N: WORDS`
abbrev pub trace_words : TraceFault → List ℕ
trace_words (trace_faults.Line line fault) = codes "line " ++ decimal line ++ codes " fault " ++ decimal fault ++ words_after (fault_numbered fault)
trace_words trace_faults.OutOfMemory = memory_line

-- the words after the name of the text that has the fault
abbrev pub text_line : List ℕ → TraceFault → List ℕ
text_line text trace_faults.OutOfMemory = memory_line
text_line text fault = text ++ trace_words fault

-- `run fault 2: partition NAME held at call N`
abbrev pub held_line : List ℕ → ℕ → List ℕ
held_line partition n = codes "run fault 2: partition " ++ (partition ++ (codes " held at call " ++ decimal n))

-- the line for a run's fault, which gives a partition by its number
abbrev pub run_line : RunFault → List ℕ
run_line run_faults.OutOfMemory = memory_line
run_line (run_faults.Held partition n) = held_line (decimal partition) n
run_line run_faults.WorkerNotStarted = codes "run fault 3: worker not started"
run_line run_faults.ResultsDiffer = codes "run fault 4: collected results do not match"
run_line run_faults.NoObserver = codes "run fault 5: no observer"

-- the line for a fault of a replay or a run
abbrev pub fault_line : Fault → List ℕ
fault_line (faults.Config fault) = config_line fault
fault_line (faults.Trace fault) = text_line (codes "trace ") fault
fault_line (faults.Script partition fault) = text_line (codes "script " ++ partition ++ codes " ") fault
fault_line (faults.Held partition n) = held_line partition n
fault_line (faults.Run fault) = run_line fault
fault_line faults.Gone = codes "observer gone"
fault_line faults.Memory = memory_line
