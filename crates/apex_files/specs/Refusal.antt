-- Why the program refuses, the line that says so, and the status with which it then ends.
use Rattle.std.specs.Prelude.{ℕ, List, ◌++◌, codes}
use Rattle.apex_command_line.specs.declared.WordsFault.{WordsFault}
use Rattle.apex_command_line.specs.declared.WordsFault.TheVariants as words
use Rattle.apex_module.specs.declared.fault.ConfigFault.TheVariants as config_faults
use Rattle.apex_texts.specs.declared.fault.Fault.TheVariants as faults
use Rattle.apex_texts.specs.declared.fault.TraceFault.TheVariants as trace_faults
use Rattle.apex_texts.specs.FaultLine.{fault_line}
use Rattle.apex_files.specs.declared.refusal.Refusal.{Refusal}
use Rattle.apex_files.specs.declared.refusal.Refusal.TheVariants.{Usage, Argument, Text, File, Output}

-- 1 for a refused text, 2 for wrong usage, 3 for a file, memory, a worker or standard output
abbrev pub status_of : Refusal → ℕ
status_of (Text faults.Memory) = 3
status_of (Text (faults.Config config_faults.OutOfMemory)) = 3
status_of (Text (faults.Trace trace_faults.OutOfMemory)) = 3
status_of (Text (faults.Script partition trace_faults.OutOfMemory)) = 3
status_of (Text (faults.Held partition n)) = 3
status_of (Text (faults.Run fault)) = 3
status_of (Text faults.Gone) = 3
status_of (Text fault) = 1
status_of Usage = 2
status_of (Argument word) = 2
status_of (File path obstacle) = 3
status_of Output = 3

-- running out of memory is the same refusal everywhere
abbrev pub words_refusal : WordsFault → Refusal
words_refusal words.Usage = Usage
words_refusal words.OutOfMemory = Text faults.Memory

-- the line of a refusal
abbrev pub refusal_line : Refusal → List ℕ
refusal_line Usage = codes "usage: apexports check CONFIG | replay CONFIG TRACE | run CONFIG [NAME=SCRIPT]..."
refusal_line (Argument word) = codes "argument fault: " ++ word.now
refusal_line (Text fault) = fault_line fault
refusal_line (File path obstacle) = codes "cannot read " ++ path.now
refusal_line Output = codes "cannot write"
