-- Logs that partitions kept separately, and the orders of all their entries.
use Rattle.std.specs.Prelude.{ℕ, ◌≡◌, List, [], ◌∷◌, ◌++◌, length, take, slice_get, unwrap_or, Option}
use Rattle.apex_log_orders.specs.Prelude.{option_to_list, Configuration, Entry, History, entries_of, IsLawful}
use Rattle.apex_log_orders.specs.declared.answer.Answer.{Answer}
use Rattle.apex_log_orders.specs.declared.answer.Answer.TheVariants.{Order, NoOrder, Undecided}
use Rattle.apex_log_orders.specs.declared.answer.CallPlace.{CallPlace}

-- the entries of each partition, in order
abbrev pub Logs : Type 0
Logs = List History

-- the log of a partition; no entries if it has none
abbrev pub log_in : Logs → ℕ → History
log_in logs p = unwrap_or (slice_get logs p) []

-- an order of all entries: a lawful history in which each partition made the calls of its log and got the replies there
pub record IsOrder (config : Configuration) (logs : Logs) (history : History) : Type 0 where
  pub lawful : IsLawful config history
  pub entries : (p : ℕ) → entries_of p history ≡ log_in logs p

-- a lawful history in which each partition made the first calls of its log and got the replies there
pub record IsBeginning (config : Configuration) (logs : Logs) (history : History) : Type 0 where
  pub lawful : IsLawful config history
  pub entries : (p : ℕ) → entries_of p history ≡ take (length (entries_of p history)) (log_in logs p)

-- no history is an order of all entries
abbrev pub HasNoOrder : Configuration → Logs → Type 0
HasNoOrder config logs = (history : History) → ¬ IsOrder config logs history

-- the entry at a place of a partition's log
abbrev pub entry_at : Logs → CallPlace → Option Entry
entry_at logs place = slice_get (log_in logs place.partition) place.index

-- the entries at these places, one after another
abbrev pub entries_at : Logs → List CallPlace → History
entries_at logs [] = []
entries_at logs (place ∷ places) = option_to_list (entry_at logs place) ++ entries_at logs places

-- what an answer says about the logs
abbrev pub IsAnswer : Configuration → Logs → Answer → Type 0
IsAnswer config logs (Order places) = IsOrder config logs (entries_at logs places.items)
IsAnswer config logs (NoOrder longest) = HasNoOrder config logs × IsBeginning config logs (entries_at logs longest.items)
IsAnswer config logs (Undecided longest) = IsBeginning config logs (entries_at logs longest.items)
