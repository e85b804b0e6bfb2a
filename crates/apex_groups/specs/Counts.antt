-- Orders of all calls that show each channel's counts.
use Rattle.std.specs.Prelude.{ℕ, zero, suc, Bool, ◌≡◌, ◌<◌, List, [], ◌∷◌, ◌++◌, length}
use Rattle.apex_groups.specs.Prelude.{Configuration, accepted_on, received_on, cleared_on, waiting_on, count_of, History, Scripts, IsWay, history_of, HasSameCounts, Has}
use Rattle.apex_orders.specs.Clock.{IsClocked}

-- the channel has the same counts of messages after both, and the same number wait
pub record HasSameTotals (config : Configuration) (history other : History) (c : ℕ) : Type 0 where
  pub counts : HasSameCounts config history other c
  pub waiting : length (waiting_on config c history) ≡ length (waiting_on config c other)

-- each channel has the same counts of messages after both, and the same number wait
abbrev pub AreSameTotals : Configuration → History → History → Type 0
AreSameTotals config history other = (c : ℕ) → c < length config.channels → HasSameTotals config history other c

-- what the first channels count: messages accepted, received and cleared, and how many wait
abbrev pub totals_below : Configuration → History → ℕ → List ℕ
totals_below config history zero = []
totals_below config history (suc c) =
    totals_below config history c
    ++ count_of (accepted_on config c history) ∷ count_of (received_on config c history) ∷ count_of (cleared_on config c history)
    ∷ length (waiting_on config c history) ∷ []

-- one of the orders leads to each channel's counts after the history
pub record HasSuchTotals (config : Configuration) (scripts : Scripts) (ends : List (List ℕ)) (history : History) : Type 0 where
  pub order : List ℕ
  pub here : Has ends order
  pub same : AreSameTotals config history (history_of config scripts order)

-- those kept are among the ends, and whatever an end counts on all channels, one of those kept counts
pub record KeepTotals (config : Configuration) (scripts : Scripts) (ends kept : List (List ℕ)) : Type 0 where
  pub each : (order : List ℕ) → Has kept order → Has ends order
  pub every : (order : List ℕ) → Has ends order → HasSuchTotals config scripts kept (history_of config scripts order)

-- one of the orders leads to the channel's counts after the way
pub record ShowsCounts (config : Configuration) (scripts : Scripts) (ends : List (List ℕ)) (way : History) (c : ℕ) : Type 0 where
  pub order : List ℕ
  pub here : Has ends order
  pub same : HasSameTotals config way (history_of config scripts order) c

-- each listed order makes all calls, and whatever a channel counts after some way, it counts after one of them; with the
-- clock, of those on which each call was due
pub record ShowAllCounts (clock : Bool) (config : Configuration) (scripts : Scripts) (ends : List (List ℕ)) : Type 0 where
  pub ways : (order : List ℕ) → Has ends order → IsWay config scripts (history_of config scripts order)
  pub clocked : (order : List ℕ) → Has ends order → IsClocked clock scripts (history_of config scripts order)
  pub counts : (way : History) → IsWay config scripts way → IsClocked clock scripts way → (c : ℕ) → c < length config.channels
      → ShowsCounts config scripts ends way c
