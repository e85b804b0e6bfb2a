-- Dead ends of a search: what is kept of a history that no order begins with, so that none with its state is searched.
use Rattle.std.specs.Prelude.{ℕ, ◌≡◌, ◌<◌, ◌+◌, Bool, true, List, Vec, length, slice_get, Some}
use Rattle.apex_log_orders.specs.Prelude.{Configuration, waiting_on, History, entries_of}
use Rattle.std.specs.BTreeSet.{BTreeSet, contains_by}
use Rattle.std.specs.Cmp.Lexicographic.{slice_cmp}
use Rattle.std.specs.Ordering.{nat_cmp}
use Rattle.apex_log_orders.specs.LogOrders.{Logs, IsBeginning}
use Rattle.apex_log_orders.specs.Walking.{Ends}

-- the key of a history: how many calls each partition made, then how many messages wait on each channel; two beginnings
-- of orders of the same logs that have one key have one state, so what can follow one can follow the other
pub record HasKey (config : Configuration) (history : History) (key : List ℕ) : Type 0 where
  pub made : (p : ℕ) → p < length config.partitions → slice_get key p ≡ Some (length (entries_of p history))
  pub waiting : (c : ℕ) → c < length config.channels
      → slice_get key (length config.partitions + c) ≡ Some (length (waiting_on config c history))

-- whether the key is in the set
abbrev pub has_key : {A : Type 0} → BTreeSet (Vec ℕ A) → List ℕ → Bool
has_key keys key = contains_by (λ other. slice_cmp nat_cmp key other.items) keys

-- no order begins with a history whose key is in the set
abbrev pub AreDead : {A : Type 0} → Configuration → Logs → BTreeSet (Vec ℕ A) → Type 0
AreDead config logs keys = (key : List ℕ) (history : History) → has_key keys key ≡ true
    → IsBeginning config logs history → HasKey config history key → ¬ Ends config logs history
