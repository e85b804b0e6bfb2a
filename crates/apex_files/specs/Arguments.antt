-- The partitions that arguments NAME=FILE name, and what the files give to them.
use Rattle.std.specs.Prelude.{◌≡◌, ℕ, ◌==◌, Bool, false, if◌then◌else◌, List, [], ◌∷◌, length, Option, Some, None, IfSome, All}
use Rattle.std.specs.List.{slice_get, filter, list_any, before_first, after_first}
use Rattle.std.specs.Borrow.{Bor}
use Rattle.apex_module.specs.Configuration.{Configuration, partition_named}
use Rattle.apex_files.specs.Reading.{FileBytes}

-- ---- one argument

-- the sign that ends the name; 61 is its ASCII number
abbrev pub is_equals_sign : ℕ → Bool
is_equals_sign byte = byte == 61

-- the name before the first equals sign
abbrev pub name_in : List ℕ → List ℕ
name_in argument = before_first is_equals_sign argument

-- the path after the first equals sign; it may contain further equals signs
abbrev pub path_in : List ℕ → List ℕ
path_in argument = after_first is_equals_sign argument

-- the partition that an argument names; none if it has no equals sign, or no partition's name before it
abbrev pub partition_in : Configuration → List ℕ → Option ℕ
partition_in config argument =
    if list_any is_equals_sign argument then partition_named config (name_in argument) else None

-- ---- all arguments

abbrev pub Arguments : Type 0
Arguments = List (Bor (List ℕ))

abbrev pub is_partition : ℕ → Option ℕ → Bool
is_partition p None = false
is_partition p (Some q) = q == p

-- the arguments that name partition p
abbrev pub arguments_for : Configuration → ℕ → Arguments → Arguments
arguments_for config p arguments = filter (λ argument. is_partition p (partition_in config argument.now)) arguments

abbrev pub NamesPartition : Configuration → Bor (List ℕ) → Type 0
NamesPartition config argument = (p : ℕ) × (partition_in config argument.now ≡ Some p)

-- ---- what the files give

-- what the arguments that name a partition give to it: `nothing` if there are none; what the file's text says for the
-- partition if there is one; two are refused
abbrev pub IsGivenBy : {X : Type 0} → (ℕ → List ℕ → X → Type 0) → X → FileBytes → ℕ → Arguments → X → Type 0
IsGivenBy Says nothing files p [] given = given ≡ nothing
IsGivenBy Says nothing files p (argument ∷ []) given = IfSome (files (path_in argument.now)) (λ bytes. Says p bytes given)
IsGivenBy Says nothing files p (argument ∷ other ∷ more) given = ⊥

-- what the one argument that names a partition, or its absence, gives to each partition; each argument names a partition
pub record AreGiven {X : Type 0} (Says : ℕ → List ℕ → X → Type 0) (nothing : X) (files : FileBytes) (config : Configuration) (arguments : Arguments) (all : List X) : Type 0 where
  pub count : length all ≡ length config.partitions
  pub named : All (NamesPartition config) arguments
  pub each : (p : ℕ) (given : X) → slice_get all p ≡ Some given → IsGivenBy Says nothing files p (arguments_for config p arguments) given
