-- The operating mode of a partition, OPERATING_MODE_TYPE.
use Rattle.std.specs.Prelude.{ℕ, ◌==◌, if◌then◌else◌, List, codes, Option, Some, None}
use Rattle.apex_types.specs.declared.mode.Mode.{Mode}
use Rattle.apex_types.specs.declared.mode.Mode.TheVariants.{Idle, ColdStart, WarmStart, Normal}

-- the number of the standard's enumeration
abbrev pub number_of : Mode → ℕ
number_of Idle = 0
number_of ColdStart = 1
number_of WarmStart = 2
number_of Normal = 3

-- the standard's word
abbrev pub word_of : Mode → List ℕ
word_of Idle = codes "IDLE"
word_of ColdStart = codes "COLD_START"
word_of WarmStart = codes "WARM_START"
word_of Normal = codes "NORMAL"

-- the mode that has this number
abbrev pub mode_numbered : ℕ → Option Mode
mode_numbered number =
    if number == 0 then Some Idle
    else if number == 1 then Some ColdStart
    else if number == 2 then Some WarmStart
    else if number == 3 then Some Normal
    else None
