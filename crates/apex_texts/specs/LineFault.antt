-- What is wrong with a line of a trace or a script: the faults, their numbers and their words.
use Rattle.std.specs.Prelude.{ℕ, List, codes, Option, Some, None, ◌==◌, if◌then◌else◌}
use Rattle.apex_texts.specs.declared.line_fault.LineFault.{LineFault}
use Rattle.apex_texts.specs.declared.line_fault.LineFault.TheVariants.{NotAscii, TooFewWords, TooManyWords, Moment, Partition, UnknownCall, Number, Name, Message}

-- the number of a fault
abbrev pub number_of : LineFault → ℕ
number_of NotAscii = 1
number_of TooFewWords = 2
number_of TooManyWords = 3
number_of Moment = 4
number_of Partition = 5
number_of UnknownCall = 6
number_of Number = 7
number_of Name = 8
number_of Message = 9

-- the fault with this number
abbrev pub fault_numbered : ℕ → Option LineFault
fault_numbered number =
    if number == 1 then Some NotAscii
    else if number == 2 then Some TooFewWords
    else if number == 3 then Some TooManyWords
    else if number == 4 then Some Moment
    else if number == 5 then Some Partition
    else if number == 6 then Some UnknownCall
    else if number == 7 then Some Number
    else if number == 8 then Some Name
    else if number == 9 then Some Message
    else None

-- the printed words for a fault
abbrev pub fault_words : LineFault → List ℕ
fault_words NotAscii = codes "not ASCII"
fault_words TooFewWords = codes "too few words"
fault_words TooManyWords = codes "too many words"
fault_words Moment = codes "moment"
fault_words Partition = codes "partition"
fault_words UnknownCall = codes "unknown call"
fault_words Number = codes "number"
fault_words Name = codes "name"
fault_words Message = codes "message"
