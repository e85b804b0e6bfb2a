-- The mode of a partition (SET_PARTITION_MODE).
use Rattle.std.specs.Prelude.{ℕ, Bool, true, false, ◌==◌, ◌&&◌, if◌then◌else◌, Option, Some, None, unwrap_or, fold}
use Rattle.apex_types.specs.Mode.{mode_numbered}
use Rattle.apex_types.specs.declared.call.Call.{Call}
use Rattle.apex_types.specs.declared.call.Call.TheVariants.{SetMode}
use Rattle.apex_types.specs.declared.mode.Mode.{Mode}
use Rattle.apex_types.specs.declared.mode.Mode.TheVariants.{Idle, ColdStart, WarmStart, Normal}
use Rattle.apex_types.specs.declared.reply.Reply.{Reply}
use Rattle.apex_types.specs.declared.reply.Reply.TheVariants.{Code}
use Rattle.apex_types.specs.declared.return_code.ReturnCode.{ReturnCode}
use Rattle.apex_types.specs.declared.return_code.ReturnCode.TheVariants.{NoError}
use Rattle.apex_ports.specs.declared.history.Entry.{Entry}
use Rattle.apex_ports.specs.History.{History}

abbrev pub is_no_error : ReturnCode → Bool
is_no_error NoError = true
is_no_error _ = false

-- the reply is NO_ERROR without data
abbrev pub is_code_no_error : Reply → Bool
is_code_no_error (Code code) = is_no_error code
is_code_no_error _ = false

abbrev pub is_idle : Mode → Bool
is_idle Idle = true
is_idle _ = false

abbrev pub is_normal : Mode → Bool
is_normal Normal = true
is_normal _ = false

abbrev pub is_cold_start : Mode → Bool
is_cold_start ColdStart = true
is_cold_start _ = false

-- a partition initialises in COLD_START and in WARM_START
abbrev pub is_start : Mode → Bool
is_start ColdStart = true
is_start WarmStart = true
is_start _ = false

-- the mode that a call asks for
abbrev pub mode_asked : Call → Option Mode
mode_asked (SetMode number) = mode_numbered number
mode_asked _ = None

-- the mode that an entry sets: that of an accepted SET_PARTITION_MODE of the partition
abbrev pub mode_set : ℕ → Entry → Option Mode
mode_set partition entry = if is_code_no_error entry.reply && (entry.partition == partition) then mode_asked entry.call else None

-- the mode set last; COLD_START if none was set (the initial mode is this project's own choice)
abbrev pub mode_of : ℕ → History → Mode
mode_of partition history = fold (λ mode entry. unwrap_or (mode_set partition entry) mode) ColdStart history

-- a restart: COLD_START or WARM_START was set, from any mode
abbrev pub is_restart : Option Mode → Bool
is_restart None = false
is_restart (Some mode) = is_start mode

abbrev pub restarts : ℕ → Entry → Bool
restarts partition entry = is_restart (mode_set partition entry)
