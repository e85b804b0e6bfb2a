-- What a replay and a run of files give if their bytes are known.
use Rattle.std.proofs.Common.{◌≡◌, ℕ, List, take, Bor, Option, Some, None, Result, Ok, Err, subst, String, Global}
use Rattle.std.specs.Prelude.{IfSome, MatchOption}
use Rattle.apex_types.specs.declared.call.Call.{Call}
use Rattle.apex_types.specs.declared.moment.Moment.{Moment}
use Rattle.apex_module.specs.Configuration.{Configuration}
use Rattle.apex_config.specs.Meaning.{config_of}
use Rattle.apex_module.specs.declared.fault.ConfigFault.{ConfigFault}
use Rattle.apex_texts.specs.Replay.{IsTraceReplay}
use Rattle.apex_texts.specs.declared.fault.Fault.{Fault}
use Rattle.apex_texts.specs.declared.fault.Fault.TheVariants as faults
use Rattle.apex_runs.specs.Run.{IsRun}
use Rattle.apex_texts.proofs.ReplayLemmas.{config_read}
use Rattle.apex_files.specs.declared.refusal.Refusal.{Refusal}
use Rattle.apex_files.specs.declared.refusal.Refusal.TheVariants.{Usage, Argument, Text, File, Output}
use Rattle.apex_files.specs.Reading.{FileBytes}
use Rattle.apex_files.specs.Arguments.{Arguments}
use Rattle.apex_files.specs.Scripts.{AreScripts, AreArgumentsRefused, new_partition_in}
use Rattle.apex_tasks.specs.Task.{IsFileReplay, IsFileRun}

-- a fault of the replay or of the run is the refusal
abbrev pub as_refused : Result (String Global) Fault → Result (String Global) Refusal
as_refused (Ok report) = Ok report
as_refused (Err fault) = Err (Text fault)

known_replay : (config trace : List ℕ) (answer : Result (String Global) Fault) (configuration : Configuration)
    → config_of config ≡ Ok configuration → IsTraceReplay answer configuration trace → IsFileReplay (as_refused answer) config trace
known_replay config trace (Ok report) configuration read replay = config_read (Ok report) config trace configuration read replay
known_replay config trace (Err fault) configuration read replay = config_read (Err fault) config trace configuration read replay

pub file_replay : (config trace : Option (List ℕ)) (answer : Result (String Global) Fault) (configuration : Configuration) (text : List ℕ)
    → IfSome config (λ known. config_of known ≡ Ok configuration) → IfSome trace (λ known. text ≡ known) → IsTraceReplay answer configuration text
    → IfSome config (λ c. IfSome trace (λ t. IsFileReplay (as_refused answer) c t))
file_replay None trace answer configuration text read same replay = tt
file_replay (Some config) None answer configuration text read same replay = tt
file_replay (Some config) (Some trace) answer configuration text read same replay =
    known_replay config trace answer configuration read (subst (λ bytes. IsTraceReplay answer configuration bytes) same replay)

-- ---- runs

-- no argument is refused as a fault of the configuration
not_config : (fault : ConfigFault) (argument : Bor (List ℕ)) (p : Option ℕ) → MatchOption p (Text (faults.Config fault) ≡ Argument argument) (λ q. ⊥) → ⊥
not_config fault argument None same = absurd cc
not_config fault argument (Some p) never = never

known_refused : (files : FileBytes) (arguments : Arguments) (config : List ℕ) (configuration : Configuration) (refusal : Refusal)
    → config_of config ≡ Ok configuration → AreArgumentsRefused files configuration arguments refusal → IsFileRun files arguments (Err refusal) config
known_refused files arguments config configuration (Argument word) read refused = (configuration, read, refused)
known_refused files arguments config configuration (File path obstacle) read refused = tt
known_refused files arguments config configuration (Text (faults.Script name fault)) read refused = (configuration, read, refused)
known_refused files arguments config configuration (Text faults.Memory) read refused = tt
known_refused files arguments config configuration (Text (faults.Config fault)) read refused = absurd (not_config fault refused.argument (new_partition_in configuration (take refused.place arguments) refused.argument.now) refused.refused)
known_refused files arguments config configuration (Text (faults.Trace fault)) read refused = (configuration, read, refused)
known_refused files arguments config configuration (Text (faults.Held name n)) read refused = (configuration, read, refused)
known_refused files arguments config configuration (Text (faults.Run fault)) read refused = tt
known_refused files arguments config configuration (Text faults.Gone) read refused = tt
known_refused files arguments config configuration Usage read refused = (configuration, read, refused)
known_refused files arguments config configuration Output read refused = (configuration, read, refused)

-- an argument of a run is refused
pub argument_refused : (files : FileBytes) (arguments : Arguments) (config : Option (List ℕ)) (configuration : Configuration) (refusal : Refusal)
    → IfSome config (λ known. config_of known ≡ Ok configuration) → AreArgumentsRefused files configuration arguments refusal → IfSome config (IsFileRun files arguments (Err refusal))
argument_refused files arguments None configuration refusal read refused = tt
argument_refused files arguments (Some config) configuration refusal read refused = known_refused files arguments config configuration refusal read refused

known_run : (files : FileBytes) (arguments : Arguments) (config : List ℕ) (scripts : List (List (Moment × Call))) (answer : Result (String Global) Fault) (configuration : Configuration)
    → config_of config ≡ Ok configuration → AreScripts files configuration arguments scripts → IsRun (λ p n. ⊥) configuration scripts answer → IsFileRun files arguments (as_refused answer) config
known_run files arguments config scripts (Ok text) configuration read named report = (configuration, read, scripts, named, report)
known_run files arguments config scripts (Err (faults.Held name n)) configuration read named held = absurd held.2.allowed
known_run files arguments config scripts (Err (faults.Run fault)) configuration read named run = tt
known_run files arguments config scripts (Err faults.Gone) configuration read named run = tt
known_run files arguments config scripts (Err faults.Memory) configuration read named run = tt
known_run files arguments config scripts (Err (faults.Config fault)) configuration read named run = absurd run
known_run files arguments config scripts (Err (faults.Trace fault)) configuration read named run = absurd run
known_run files arguments config scripts (Err (faults.Script name fault)) configuration read named run = absurd run

-- scripts run under the open gate
pub file_run : (files : FileBytes) (arguments : Arguments) (config : Option (List ℕ)) (scripts : List (List (Moment × Call))) (answer : Result (String Global) Fault) (configuration : Configuration)
    → IfSome config (λ known. config_of known ≡ Ok configuration) → AreScripts files configuration arguments scripts → IsRun (λ p n. ⊥) configuration scripts answer
    → IfSome config (IsFileRun files arguments (as_refused answer))
file_run files arguments None scripts answer configuration read named run = tt
file_run files arguments (Some config) scripts answer configuration read named run = known_run files arguments config scripts answer configuration read named run
