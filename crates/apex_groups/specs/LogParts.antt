-- What is found for the logs of each group of partitions.
use Rattle.std.specs.Prelude.{ℕ, ◌≡◌, ◌≤◌, ◌<◌, Bool, List, [], length}
use Rattle.apex_groups.specs.Prelude.{Configuration, History, entries_of, Logs, log_in, IsAnswer}
use Rattle.apex_log_orders.specs.declared.answer.Answer.{Answer}
use Rattle.apex_log_orders.specs.LogOrders.{IsBeginning}
use Rattle.apex_groups.specs.Groups.{IsPart, group_of}

-- ---- the logs of one group

-- what an answer says about the logs of the partitions inside
abbrev pub IsAnswerOf : Configuration → (ℕ → Bool) → Logs → Answer → Type 0
IsAnswerOf config inside logs answer = (part : Logs) × IsPart inside logs part × IsAnswer config part answer

-- ---- the groups searched so far

-- a beginning that has only entries of the first groups
pub record IsOfGroups (config : Configuration) (logs : Logs) (groups : List ℕ) (count : ℕ) (history : History) : Type 0 where
  pub begins : IsBeginning config logs history
  pub others : (p : ℕ) → count ≤ group_of groups p → entries_of p history ≡ []

-- it has all entries of their partitions
abbrev pub AreWhole : Configuration → Logs → List ℕ → ℕ → History → Type 0
AreWhole config logs groups count history =
    (p : ℕ) → p < length config.partitions → group_of groups p < count → entries_of p history ≡ log_in logs p
