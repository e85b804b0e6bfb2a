-- The replies to calls.
use Rattle.std.specs.Prelude.{Option, Some, None}
use Rattle.apex_types.specs.declared.reply.Reply.{Reply}
use Rattle.apex_types.specs.declared.reply.Reply.TheVariants.{NotMade, Code}
use Rattle.apex_types.specs.declared.return_code.ReturnCode.{ReturnCode}
use Rattle.apex_types.specs.declared.return_code.ReturnCode.TheVariants.{NoError}

-- the return code: none if the call wasn't made, NO_ERROR if there are data
abbrev pub code_of : Reply → Option ReturnCode
code_of NotMade = None
code_of (Code code) = Some code
code_of _ = Some NoError
