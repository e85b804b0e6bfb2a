-- Why words don't name a task, by the kind of an error.
use Rattle.std.specs.declared.io.ErrorKind.{ErrorKind as SystemKind}
use Rattle.std.specs.declared.io.ErrorKind.TheVariants as system_kinds
use Rattle.clap.specs.declared.error.kind.ErrorKind.{ErrorKind as ParserKind}
use Rattle.clap.specs.declared.error.kind.ErrorKind.TheVariants as parser_kinds
use Rattle.apex_command_line.specs.declared.WordsFault.{WordsFault}
use Rattle.apex_command_line.specs.declared.WordsFault.TheVariants.{Usage, OutOfMemory}

-- out of memory, or for every other error of the system wrong usage
abbrev pub given_fault : SystemKind → WordsFault
given_fault system_kinds.OutOfMemory = OutOfMemory
given_fault kind = Usage

-- out of memory, or for every other error of the words' parser wrong usage
abbrev pub parsed_fault : ParserKind → WordsFault
parsed_fault parser_kinds.OutOfMemory = OutOfMemory
parsed_fault kind = Usage
