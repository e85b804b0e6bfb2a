-- What a file at a path gives if its bytes are known: the bytes, the configuration that they give, or a refusal.
use Rattle.std.specs.Prelude.{◌≡◌, ℕ, List, Option, Result, Ok, Err, IfSome}
use Rattle.std.specs.Global.{Vec}
use Rattle.apex_module.specs.Configuration.{Configuration}
use Rattle.apex_config.specs.Meaning.{config_of}
use Rattle.apex_texts.specs.declared.fault.Fault.TheVariants as faults
use Rattle.apex_files.specs.Files.{IsFaultOf}
use Rattle.apex_files.specs.declared.files.FileFault.TheVariants.{Unreadable}
use Rattle.apex_files.specs.declared.refusal.Refusal.{Refusal}
use Rattle.apex_files.specs.declared.refusal.Refusal.TheVariants.{Text, File}

-- the bytes of the file at a path, if they are known
abbrev pub FileBytes : Type 0
FileBytes = List ℕ → Option (List ℕ)

-- all bytes of the file at a path; otherwise the refusal has the path and what kept the file from being read, or memory
-- ran out
abbrev pub IsFileRead : FileBytes → List ℕ → Result (Vec ℕ) Refusal → Type 0
IsFileRead files path (Ok read) = IfSome (files path) (λ bytes. read.items ≡ bytes)
IsFileRead files path (Err (File named obstacle)) = (named.now ≡ path) × IfSome (files path) (IsFaultOf (Unreadable obstacle))
IsFileRead files path (Err (Text faults.Memory)) = Unit {0}
IsFileRead files path (Err refusal) = ⊥

-- the configuration that the bytes give, or their fault
abbrev pub IsConfigRead : Result Configuration Refusal → List ℕ → Type 0
IsConfigRead (Ok configuration) config = config_of config ≡ Ok configuration
IsConfigRead (Err (Text (faults.Config fault))) config = config_of config ≡ Err fault
IsConfigRead (Err (Text faults.Memory)) config = Unit {0}
IsConfigRead (Err (File path obstacle)) config = Unit {0}
IsConfigRead (Err refusal) config = ⊥
