-- The points that orders lead to.
use Rattle.std.specs.Prelude.{ℕ, zero, suc, ◌≡◌, ◌<◌, ◌+◌, length}
use Rattle.apex_orders.specs.Prelude.{Configuration, accepted_on, received_on, cleared_on, count_of, History, entries_of}
use Rattle.apex_orders.specs.States.{IsSameState}

-- each partition made the same number of calls in both
abbrev pub IsSameCalls : Configuration → History → History → Type 0
IsSameCalls config history other =
    (p : ℕ) → p < length config.partitions → count_of (entries_of p history) ≡ count_of (entries_of p other)

-- the channel has the same counts of messages after both
pub record HasSameCounts (config : Configuration) (history other : History) (c : ℕ) : Type 0 where
  pub accepted : count_of (accepted_on config c history) ≡ count_of (accepted_on config c other)
  pub received : count_of (received_on config c history) ≡ count_of (received_on config c other)
  pub cleared : count_of (cleared_on config c history) ≡ count_of (cleared_on config c other)

-- this holds for each channel
abbrev pub IsSameCounts : Configuration → History → History → Type 0
IsSameCounts config history other =
    (c : ℕ) → c < length config.channels → HasSameCounts config history other c

-- both made the same number of calls of each partition, and led to one state with the same counts
pub record IsSamePoint (config : Configuration) (history other : History) : Type 0 where
  pub calls : IsSameCalls config history other
  pub counts : IsSameCounts config history other
  pub state : IsSameState config history other

-- the number of calls that the first partitions made
abbrev pub made_below : ℕ → History → ℕ
made_below zero history = 0
made_below (suc p) history = made_below p history + count_of (entries_of p history)

-- the number of calls that were made
abbrev pub calls_made : Configuration → History → ℕ
calls_made config history = made_below (length config.partitions) history
