-- What is wrong with a line of a log: the faults, their numbers and their words.
use Rattle.std.specs.Prelude.{ℕ, List, codes}
use Rattle.apex_texts.specs.LineFault.{number_of as number_of_line_fault, fault_words}
use Rattle.apex_logs.specs.declared.log_fault.LogFault.{LogFault}
use Rattle.apex_logs.specs.declared.log_fault.LogFault.TheVariants.{Line, NoReply, OpenNote, UnknownReply}

-- the number of a fault; those of a trace's line keep theirs
abbrev pub number_of : LogFault → ℕ
number_of (Line fault) = number_of_line_fault fault
number_of NoReply = 10
number_of OpenNote = 11
number_of UnknownReply = 12

-- the printed words of a fault
abbrev pub log_fault_words : LogFault → List ℕ
log_fault_words (Line fault) = fault_words fault
log_fault_words NoReply = codes "no reply"
log_fault_words OpenNote = codes "open note"
log_fault_words UnknownReply = codes "unknown reply"
