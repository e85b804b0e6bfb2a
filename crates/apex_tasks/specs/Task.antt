-- What a task gives if the bytes of its files are known: the text to print, or the fault of a refused text.
use Rattle.std.specs.Prelude.{◌≡◌, ℕ, List, Result, Ok, Err, String, string_bytes}
use Rattle.std.specs.declared.alloc.Global.{Global}
use Rattle.apex_types.specs.declared.call.Call.{Call}
use Rattle.apex_types.specs.declared.moment.Moment.{Moment}
use Rattle.apex_module.specs.Configuration.{Configuration}
use Rattle.apex_config.specs.Meaning.{config_of}
use Rattle.apex_texts.specs.Check.{check_line}
use Rattle.apex_texts.specs.Replay.{IsReplay}
use Rattle.apex_runs.specs.Run.{IsRunReport}
use Rattle.apex_texts.specs.declared.fault.Fault.TheVariants as faults
use Rattle.apex_files.specs.declared.refusal.Refusal.{Refusal}
use Rattle.apex_files.specs.declared.refusal.Refusal.TheVariants.{Text, File}
use Rattle.apex_files.specs.Reading.{FileBytes}
use Rattle.apex_files.specs.Arguments.{Arguments}
use Rattle.apex_files.specs.Scripts.{AreScripts, AreArgumentsRefused}

-- the line for the configuration that the bytes give, or the fault of the bytes
abbrev pub IsCheck : Result (String Global) Refusal → List ℕ → Type 0
IsCheck (Ok text) config = (configuration : Configuration) × (config_of config ≡ Ok configuration) × (string_bytes text ≡ check_line configuration)
IsCheck (Err (Text (faults.Config fault))) config = config_of config ≡ Err fault
IsCheck (Err (Text faults.Memory)) config = Unit {0}
IsCheck (Err (File path obstacle)) config = Unit {0}
IsCheck (Err refusal) config = ⊥

-- the replay of the two files' bytes
abbrev pub IsFileReplay : Result (String Global) Refusal → List ℕ → List ℕ → Type 0
IsFileReplay (Ok text) config trace = IsReplay (Ok text) config trace
IsFileReplay (Err (Text fault)) config trace = IsReplay (Err fault) config trace
IsFileReplay (Err (File path obstacle)) config trace = Unit {0}
IsFileReplay (Err refusal) config trace = ⊥

-- the run of the scripts that the arguments name, on the configuration that the bytes give: no call is held, since the
-- gate is open
abbrev pub IsFileRun : FileBytes → Arguments → Result (String Global) Refusal → List ℕ → Type 0
IsFileRun files arguments (Ok text) config =
    (configuration : Configuration) × (config_of config ≡ Ok configuration)
    × (scripts : List (List (Moment × Call))) × AreScripts files configuration arguments scripts × IsRunReport configuration scripts (string_bytes text)
IsFileRun files arguments (Err (Text (faults.Config fault))) config = config_of config ≡ Err fault
IsFileRun files arguments (Err (Text (faults.Run fault))) config = Unit {0}
IsFileRun files arguments (Err (Text faults.Gone)) config = Unit {0}
IsFileRun files arguments (Err (Text faults.Memory)) config = Unit {0}
IsFileRun files arguments (Err (File path obstacle)) config = Unit {0}
IsFileRun files arguments (Err refusal) config = (configuration : Configuration) × (config_of config ≡ Ok configuration) × AreArgumentsRefused files configuration arguments refusal
