-- Why a file was not read.
use Rattle.std.specs.Prelude.{ℕ, ℤ, ◌<◌, ◌≤◌, List, length, Option}
use Rattle.std.specs.Io.KnownBytes.{Consumes}
use Rattle.std.specs.declared.io.ErrorKind.{ErrorKind}
use Rattle.std.specs.declared.io.ErrorKind.TheVariants as kinds
use Rattle.apex_files.specs.declared.files.FileFault.{FileFault}
use Rattle.apex_files.specs.declared.files.FileFault.TheVariants.{Unreadable, OutOfMemory}
use Rattle.apex_files.specs.declared.files.Obstacle.TheVariants.{NotFound, PermissionDenied, IsFolder, TooLarge, NotEnded, System}
use Rattle.apex_files.specs.declared.files.TheConstants.{FILE_LIMIT}

-- the fault for the kind and the number of a system's error: running out of memory is a fault of its own
abbrev pub file_fault : ErrorKind → Option ℤ → FileFault
file_fault kinds.OutOfMemory number = OutOfMemory
file_fault kinds.NotFound number = Unreadable NotFound
file_fault kinds.PermissionDenied number = Unreadable PermissionDenied
file_fault kinds.IsADirectory number = Unreadable IsFolder
file_fault kind number = Unreadable (System number)

-- for a reader whose bytes are known: more bytes than the limit were read if the fault says so, and no more if the fault
-- says that they didn't end
abbrev pub IsReadUpTo : FileFault → Option (List ℕ) → Option (List ℕ) → Type 0
IsReadUpTo (Unreadable TooLarge) old new = (bytes : List ℕ) × Consumes old new bytes × (FILE_LIMIT < length bytes)
IsReadUpTo (Unreadable NotEnded) old new = (bytes : List ℕ) × Consumes old new bytes × (length bytes ≤ FILE_LIMIT)
IsReadUpTo fault old new = Unit {0}

-- for a file whose bytes are known: it is reported as too large only if it has more bytes than the limit
abbrev pub IsFaultOf : FileFault → List ℕ → Type 0
IsFaultOf (Unreadable TooLarge) bytes = FILE_LIMIT < length bytes
IsFaultOf fault bytes = Unit {0}
