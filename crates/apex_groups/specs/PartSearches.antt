-- The searches of the parts of scripts.
use Rattle.std.specs.Prelude.{ℕ, ◌≡◌, Bool, List, length, slice_get, Some}
use Rattle.apex_groups.specs.Prelude.{Configuration, Scripts, AreRepliesWith}
use Rattle.apex_groups.specs.Counts.{ShowAllCounts}
use Rattle.apex_groups.specs.Groups.{IsPart, in_group}
use Rattle.apex_groups.specs.declared.script_part.ScriptPart.{ScriptPart}
use Rattle.apex_groups.specs.declared.searcher.Searcher.{Searcher}
use Rattle.apex_orders.specs.Searches.{CanGoOn, IsOutcomeSearch}
use Rattle.apex_orders.specs.declared.outcome_search.OutcomeSearch.{OutcomeSearch}
use Rattle.apex_orders.specs.declared.outcome_search.Searched.{Searched}
use Rattle.apex_orders.specs.declared.outcome_search.Searched.TheVariants.{All, GivenUp}
use Rattle.apex_orders.specs.declared.outcomes.Outcomes.{Outcomes}

-- ---- the parts

-- the part has the scripts of its members, and there is one for each partition
pub record IsPartOf (config : Configuration) (scripts : Scripts) (one : ScriptPart) : Type 0 where
  pub count : length one.scripts.items ≡ length config.partitions
  pub is : IsPart (in_group one.members.of_partitions.items 1) scripts one.scripts.items

abbrev pub AreParts : Configuration → Scripts → List ScriptPart → Type 0
AreParts config scripts parts = (k : ℕ) (one : ScriptPart) → slice_get parts k ≡ Some one → IsPartOf config scripts one

-- each part has a script for each partition
abbrev pub AreCounted : Configuration → List ScriptPart → Type 0
AreCounted config parts = (k : ℕ) (one : ScriptPart) → slice_get parts k ≡ Some one → length one.scripts.items ≡ length config.partitions

-- ---- what is found

-- it says everything about these scripts
pub record SaysAll (clock : Bool) (config : Configuration) (scripts : Scripts) (found : Outcomes) : Type 0 where
  pub replies : AreRepliesWith clock config scripts found.replies.items
  pub ends : ShowAllCounts clock config scripts found.ends.items

-- it says everything about these scripts, or is a search of them that can go on, with a reason why it was given up
abbrev pub IsFarEnough : Bool → Type 0 → Configuration → Scripts → ℕ → Searched → Type 0
IsFarEnough clock can_stop config scripts bound (All found) = SaysAll clock config scripts found
IsFarEnough clock can_stop config scripts bound (GivenUp search fault) = CanGoOn clock can_stop config scripts bound search fault

-- so it is for each part that the thread searched, which its limit may have ended
pub record IsSearcher (clock : Bool) (config : Configuration) (bound : ℕ) (parts : List ScriptPart) (one : Searcher) : Type 0 where
  pub count : length one.searched.items ≡ length parts
  pub each : (k : ℕ) (part : ScriptPart) (searched : Searched) → slice_get parts k ≡ Some part
      → slice_get one.searched.items k ≡ Some (Some searched) → IsFarEnough clock (Unit {0}) config part.scripts.items bound searched

abbrev pub AreSearchers : Bool → Configuration → ℕ → List ScriptPart → List Searcher → Type 0
AreSearchers clock config bound parts searchers =
    (k : ℕ) (one : Searcher) → slice_get searchers k ≡ Some one → IsSearcher clock config bound parts one

-- so it is for what one of the threads found of the part
abbrev pub IsSearchedBy : List Searcher → ℕ → Searched → Type 0
IsSearchedBy searchers k searched =
    (clock : Bool) (config : Configuration) (bound : ℕ) (parts : List ScriptPart) (part : ScriptPart) → AreSearchers clock config bound parts searchers
    → slice_get parts k ≡ Some part → IsFarEnough clock (Unit {0}) config part.scripts.items bound searched

-- it is a search of the part at the index, if that has these scripts
abbrev pub IsSearchFor : Configuration → Scripts → Searcher → ℕ → OutcomeSearch → Type 0
IsSearchFor config scripts one k search =
    (clock : Bool) (bound : ℕ) (parts : List ScriptPart) (part : ScriptPart) → IsSearcher clock config bound parts one
    → slice_get parts k ≡ Some part → part.scripts.items ≡ scripts → IsOutcomeSearch clock config scripts search

-- a searcher of some parts before is one of the same parts afterwards, whatever the clock, the configuration and the bound are
abbrev pub IsStillSearcher : Searcher → Searcher → Type 0
IsStillSearcher before after =
    (clock : Bool) (config : Configuration) (bound : ℕ) (parts : List ScriptPart) → IsSearcher clock config bound parts before → IsSearcher clock config bound parts after

abbrev pub AreStillSearchers : List Searcher → List Searcher → Type 0
AreStillSearchers before after =
    (clock : Bool) (config : Configuration) (bound : ℕ) (parts : List ScriptPart) → AreSearchers clock config bound parts before → AreSearchers clock config bound parts after
