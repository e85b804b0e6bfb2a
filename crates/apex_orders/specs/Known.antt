-- The points that a search knows.
use Rattle.std.specs.Prelude.{ℕ, suc, ◌≡◌, ◌<◌, ◌≤◌, ◌+◌, List, length, slice_get, Some}
use Rattle.apex_orders.specs.Prelude.{Configuration, History, PortsView, IsSound}
use Rattle.apex_orders.specs.declared.trial.Trial.{Trial}
use Rattle.apex_orders.specs.declared.points.Points.{Points}
use Rattle.apex_orders.specs.Orders.{Scripts, history_of}
use Rattle.apex_orders.specs.Points.{IsSamePoint, calls_made}

-- the ports have answered the calls in this order
pub record IsAfter (config : Configuration) (scripts : Scripts) (order : List ℕ) (ports : PortsView) : Type 0 where
  pub configured : ports.config ≡ config
  pub history : ports.history ≡ history_of config scripts order

-- and the next call can be made on them
pub record IsReadyAfter (config : Configuration) (scripts : Scripts) (order : List ℕ) (ports : PortsView) : Type 0 where
  pub after : IsAfter config scripts order ports
  pub sound : IsSound ports.config ports.history

-- the ports that the last orders lead to are saved
pub record ArePoints (config : Configuration) (scripts : Scripts) (orders : List (List ℕ)) (points : Points) : Type 0 where
  pub level : points.first ≤ points.next
  pub next : points.next ≤ length orders
  pub count : points.first + length points.saved.items ≡ length orders
  pub each : (j : ℕ) (ports : PortsView) (order : List ℕ) → slice_get points.saved.items j ≡ Some ports
      → slice_get orders (points.first + j) ≡ Some order → IsAfter config scripts order ports

-- the orders up to the next level make at most so many calls, those that are not yet given out exactly so many, and those
-- of the next level one more
pub record AreLevels (config : Configuration) (scripts : Scripts) (orders : List (List ℕ)) (first next calls : ℕ) : Type 0 where
  pub few : calls ≤ next
  pub before : (k : ℕ) (order : List ℕ) → k < next → slice_get orders k ≡ Some order → calls_made config (history_of config scripts order) ≤ calls
  pub here : (k : ℕ) (order : List ℕ) → first ≤ k → k < next → slice_get orders k ≡ Some order → calls_made config (history_of config scripts order) ≡ calls
  pub after : (k : ℕ) (order : List ℕ) → next ≤ k → slice_get orders k ≡ Some order → calls_made config (history_of config scripts order) ≡ suc calls

-- one of the orders from the index on leads to the history's point
pub record KnowsFrom (config : Configuration) (scripts : Scripts) (orders : List (List ℕ)) (from : ℕ) (history : History) : Type 0 where
  pub index : ℕ
  pub past : from ≤ index
  pub order : List ℕ
  pub here : slice_get orders index ≡ Some order
  pub same : IsSamePoint config history (history_of config scripts order)

-- the level and the first saved point are the same
pub record IsSameLevel (old new : Points) : Type 0 where
  pub first : new.first ≡ old.first
  pub next : new.next ≡ old.next
  pub calls : new.calls ≡ old.calls

-- both are ports of the configuration
pub record IsTrialOf (config : Configuration) (trial : Trial) : Type 0 where
  pub ports : trial.ports.config ≡ config
  pub other : trial.other.config ≡ config
