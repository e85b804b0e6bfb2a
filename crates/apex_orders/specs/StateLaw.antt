-- The law of states: what follows depends only on the state.
use Rattle.std.specs.Prelude.{ℕ, ◌≡◌, ◌<◌, List, ◌++◌, length}
use Rattle.apex_orders.specs.Prelude.{Call, Moment, Configuration, Entry, History, IsLawful, reply_to, IsSound}
use Rattle.apex_orders.specs.States.{IsSameState}

-- both histories continue alike
pub record GoesOnAlike (config : Configuration) (history other : History) : Type 0 where
  -- the next call gets the same reply
  pub reply : (p : ℕ) (at : Moment) (call : Call) → p < length config.partitions
      → reply_to config history p at call ≡ reply_to config other p at call
  -- what can follow one can follow the other, with the same replies
  pub lawful : (rest : List Entry) → IsLawful config (history ++ rest) → IsLawful config (other ++ rest)
  -- and leads both to one state again
  pub state : (rest : List Entry) → IsLawful config (history ++ rest)
      → IsSameState config (history ++ rest) (other ++ rest)

-- whatever was called
abbrev pub AlwaysGoesOnAlike : Type 0
AlwaysGoesOnAlike = (config : Configuration) (history other : History)
    → IsSound config history → IsSound config other → IsSameState config history other
    → GoesOnAlike config history other
