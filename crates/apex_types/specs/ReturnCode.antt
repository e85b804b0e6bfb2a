-- The return code of a service, RETURN_CODE_TYPE.
use Rattle.std.specs.Prelude.{ℕ, List, codes}
use Rattle.apex_types.specs.declared.return_code.ReturnCode.{ReturnCode}
use Rattle.apex_types.specs.declared.return_code.ReturnCode.TheVariants.{NoError, NoAction, NotAvailable, InvalidParam, InvalidConfig, InvalidMode, TimedOut}

-- the number of the standard's enumeration
abbrev pub number_of : ReturnCode → ℕ
number_of NoError = 0
number_of NoAction = 1
number_of NotAvailable = 2
number_of InvalidParam = 3
number_of InvalidConfig = 4
number_of InvalidMode = 5
number_of TimedOut = 6

-- the standard's word
abbrev pub word_of : ReturnCode → List ℕ
word_of NoError = codes "NO_ERROR"
word_of NoAction = codes "NO_ACTION"
word_of NotAvailable = codes "NOT_AVAILABLE"
word_of InvalidParam = codes "INVALID_PARAM"
word_of InvalidConfig = codes "INVALID_CONFIG"
word_of InvalidMode = codes "INVALID_MODE"
word_of TimedOut = codes "TIMED_OUT"
