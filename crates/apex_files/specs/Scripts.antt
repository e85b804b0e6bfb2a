-- Which scripts the arguments NAME=SCRIPT give to the partitions.
use Rattle.std.specs.Prelude.{◌≡◌, ℕ, List, [], ◌∷◌, take, Option, Some, None, Result, Ok, Err, IfSome, MatchOption}
use Rattle.std.specs.List.{slice_get}
use Rattle.std.specs.Borrow.{Bor}
use Rattle.std.specs.Global.{Vec}
use Rattle.apex_types.specs.declared.call.Call.{Call}
use Rattle.apex_types.specs.declared.moment.Moment.{Moment}
use Rattle.apex_module.specs.Configuration.{Configuration, partition_name_of}
use Rattle.apex_texts.specs.Script.{IsScriptRead, script_of}
use Rattle.apex_texts.specs.declared.fault.Fault.TheVariants as faults
use Rattle.apex_files.specs.Arguments.{Arguments, AreGiven, arguments_for, partition_in, path_in}
use Rattle.apex_files.specs.Reading.{FileBytes}
use Rattle.apex_files.specs.declared.refusal.Refusal.{Refusal}
use Rattle.apex_files.specs.declared.refusal.Refusal.TheVariants.{Argument, Text, File}

-- the calls of a script's text, for any partition
abbrev pub SaysScript : ℕ → List ℕ → List (Moment × Call) → Type 0
SaysScript p bytes script = script_of bytes ≡ Ok script

-- a script for each partition: that of the one argument that names it, or the empty one
abbrev pub AreScripts : FileBytes → Configuration → Arguments → List (List (Moment × Call)) → Type 0
AreScripts files config arguments scripts = AreGiven SaysScript [] files config arguments scripts

-- ---- refusals

-- the script of partition p in the file at a path: the calls that the bytes give, or their fault with the partition's name
abbrev pub IsScriptFile : FileBytes → Configuration → ℕ → List ℕ → Result (List (Moment × Call)) Refusal → Type 0
IsScriptFile files config p path (Ok calls) = IfSome (files path) (λ bytes. script_of bytes ≡ Ok calls)
IsScriptFile files config p path (Err (Text (faults.Script name fault))) = (partition_name_of config p ≡ Some name) × IfSome (files path) (λ bytes. IsScriptRead (Err fault) (script_of bytes))
IsScriptFile files config p path (Err (Text faults.Memory)) = Unit {0}
IsScriptFile files config p path (Err (File named obstacle)) = named.now ≡ path
IsScriptFile files config p path (Err refusal) = ⊥

-- the partition that an argument names, if no argument before it names the same one
abbrev pub if_first : Arguments → ℕ → Option ℕ
if_first [] p = Some p
if_first (argument ∷ more) p = None

abbrev pub if_new : Configuration → Arguments → Option ℕ → Option ℕ
if_new config before None = None
if_new config before (Some p) = if_first (arguments_for config p before) p

abbrev pub new_partition_in : Configuration → Arguments → List ℕ → Option ℕ
new_partition_in config before argument = if_new config before (partition_in config argument)

-- why the argument after these is refused: it names no partition, or one that was named before; or its file is refused, or
-- the file's text
abbrev pub IsRefusedAfter : FileBytes → Configuration → Arguments → Bor (List ℕ) → Refusal → Type 0
IsRefusedAfter files config before argument refusal =
    MatchOption (new_partition_in config before argument.now) (refusal ≡ Argument argument) (λ p. IsScriptFile files config p (path_in argument.now) (Err refusal))

-- the first of the arguments that has no script is refused
pub record IsFirstRefused (files : FileBytes) (config : Configuration) (arguments : Arguments) (refusal : Refusal) : Type 0 where
  pub place : ℕ
  pub argument : Bor (List ℕ)
  pub is_at : slice_get arguments place ≡ Some argument
  pub scripts : List (List (Moment × Call))
  pub before : AreScripts files config (take place arguments) scripts
  pub refused : IsRefusedAfter files config (take place arguments) argument refusal

-- the refusal of a run's arguments; memory may run out at any time
abbrev pub AreArgumentsRefused : FileBytes → Configuration → Arguments → Refusal → Type 0
AreArgumentsRefused files config arguments (Text faults.Memory) = Unit {0}
AreArgumentsRefused files config arguments refusal = IsFirstRefused files config arguments refusal

-- the scripts of a run's arguments, or the refusal of one of the arguments
abbrev pub AreArgumentsRead : FileBytes → Configuration → Arguments → Result (Vec (List (Moment × Call))) Refusal → Type 0
AreArgumentsRead files config arguments (Ok scripts) = AreScripts files config arguments scripts.items
AreArgumentsRead files config arguments (Err refusal) = AreArgumentsRefused files config arguments refusal
