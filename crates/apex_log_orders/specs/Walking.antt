-- A search that goes forward call by call, and goes back if no partition can go on.
use Rattle.std.specs.Prelude.{ℕ, ◌≡◌, ◌⊎◌, ◌<◌, ◌+◌, ◌-◌, suc, if◌then◌else◌, ltb, List, [], ◌∷◌, ◌++◌, length, take, slice_get, Option, Some, None}
use Rattle.apex_log_orders.specs.Prelude.{Configuration, IsConfiguration, Entry, History, entries_of, IsLawfulEntry}
use Rattle.apex_log_orders.specs.declared.search.Step.{Step}
use Rattle.apex_log_orders.specs.declared.search.Step.TheVariants.{On, Whole, Back}
use Rattle.apex_log_orders.specs.declared.walk.Walk.{Walk}
use Rattle.apex_log_orders.specs.declared.answer.CallPlace.{CallPlace}
use Rattle.apex_log_orders.specs.declared.choice.Choice.{Choice}
use Rattle.apex_log_orders.specs.LogOrders.{Logs, log_in, IsOrder, IsBeginning, entry_at, entries_at}

-- given the number of partitions, the first to try and the number tried: the next to try, upward and cyclically
abbrev pub candidate : ℕ → ℕ → ℕ → Option ℕ
candidate partitions first tried =
    if ltb tried partitions
    then Some (if ltb tried (partitions - first) then first + tried else tried - (partitions - first))
    else None

-- the partition's next entry after the history
abbrev pub next_of : Logs → History → ℕ → Option Entry
next_of logs history p = slice_get (log_in logs p) (length (entries_of p history))

-- the partition can go on: it logged the reply that its next call gets
pub record GoesOn (config : Configuration) (logs : Logs) (history : History) (p : ℕ) (entry : Entry) : Type 0 where
  pub next : next_of logs history p ≡ Some entry
  pub own : entry.partition ≡ p
  pub lawful : IsLawfulEntry config history entry

-- an order of all entries begins with the history
pub record Ends (config : Configuration) (logs : Logs) (history : History) : Type 0 where
  pub rest : History
  pub order : IsOrder config logs (history ++ rest)

-- no order begins with the history followed by the partition's next call
abbrev pub HasNoWay : Configuration → Logs → History → ℕ → Type 0
HasNoWay config logs history p = (entry : Entry) → GoesOn config logs history p entry → ¬ Ends config logs (history ++ entry ∷ [])

-- the partitions tried before can't continue to an order
abbrev pub HaveNoWay : Configuration → Logs → History → Choice → Type 0
HaveNoWay config logs history choice =
    (k p : ℕ) → k < choice.tried → candidate (length config.partitions) choice.first k ≡ Some p → HasNoWay config logs history p

-- the partition can go on
abbrev pub CanGoOn : Configuration → Logs → History → ℕ → Type 0
CanGoOn config logs history p = (entry : Entry) × GoesOn config logs history p entry

-- the place has an entry, of a partition of the configuration
pub record IsOwn (config : Configuration) (logs : Logs) (place : CallPlace) : Type 0 where
  pub entry : Entry
  pub here : entry_at logs place ≡ Some entry
  pub own : entry.partition ≡ place.partition
  pub within : place.partition < length config.partitions

-- this holds for each place
abbrev pub AreOwn : Configuration → Logs → List CallPlace → Type 0
AreOwn config logs places = (k : ℕ) (place : CallPlace) → slice_get places k ≡ Some place → IsOwn config logs place

abbrev pub candidate_by : ℕ → Option Choice → Option ℕ
candidate_by partitions None = None
candidate_by partitions (Some choice) = candidate partitions choice.first choice.tried

-- the partition to try next, by the last choice
abbrev pub candidate_of : Configuration → List Choice → Option ℕ
candidate_of config choices = candidate_by (length config.partitions) (slice_get choices (length choices - 1))

-- before each call, the partitions tried can't continue to an order, and the next one to try made the call
pub record AreTried (config : Configuration) (logs : Logs) (path : List CallPlace) (choices : List Choice) : Type 0 where
  pub count : length choices ≡ suc (length path)
  pub chosen : (k : ℕ) (place : CallPlace) (choice : Choice) → slice_get path k ≡ Some place → slice_get choices k ≡ Some choice
      → candidate (length config.partitions) choice.first choice.tried ≡ Some place.partition
  pub none : (k : ℕ) (choice : Choice) → slice_get choices k ≡ Some choice → HaveNoWay config logs (entries_at logs (take k path)) choice

-- each partition made the calls so far
pub record IsMade (config : Configuration) (made : List ℕ) (history : History) : Type 0 where
  pub count : length made ≡ length config.partitions
  pub each : (p : ℕ) → p < length config.partitions → slice_get made p ≡ Some (length (entries_of p history))

-- the invariant of a search
pub record IsWalk (config : Configuration) (logs : Logs) (walk : Walk) : Type 0 where
  pub valid : IsConfiguration config
  pub judged : walk.judge.config ≡ config
  pub all : length logs ≡ length config.partitions
  pub log : walk.judge.log ≡ entries_at logs walk.path.items
  pub begins : IsBeginning config logs walk.judge.log
  pub made : IsMade config walk.made.items walk.judge.log
  pub own : AreOwn config logs walk.path.items
  pub tried : AreTried config logs walk.path.items walk.choices.items

-- the partition to try next can't continue to an order
abbrev pub HasNoWayNext : Configuration → Logs → Walk → Type 0
HasNoWayNext config logs walk =
    (p : ℕ) × (candidate_of config walk.choices.items ≡ Some p) × HasNoWay config logs walk.judge.log p

-- if the search is complete, it has an order; if it goes back, no order begins with its calls
abbrev pub IsStep : Configuration → Logs → Walk → Step → Type 0
IsStep config logs walk On = Unit {0}
IsStep config logs walk Whole = IsOrder config logs walk.judge.log
IsStep config logs walk Back = Ends config logs walk.judge.log → ⊥

-- one of the two lists
abbrev pub IsOneOf : List CallPlace → List CallPlace → List CallPlace → Type 0
IsOneOf one other places = (places ≡ one) ⊎ (places ≡ other)
