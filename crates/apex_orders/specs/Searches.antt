-- Searches of all that can happen to scripts.
use Rattle.std.specs.Prelude.{ℕ, Bool, ◌≡◌, [], Err}
use Rattle.apex_orders.specs.Prelude.{Configuration}
use Rattle.apex_orders.specs.Orders.{Scripts}
use Rattle.apex_orders.specs.Outcomes.{AreEndsWith, AreRepliesWith, IsUndecidedWith}
use Rattle.apex_orders.specs.Workers.{IsUnderWay}
use Rattle.apex_orders.specs.declared.orders_fault.OrdersFault.{OrdersFault}
use Rattle.apex_orders.specs.declared.orders_fault.OrdersFault.TheVariants.{OutOfMemory}
use Rattle.apex_orders.specs.declared.outcomes.Outcomes.{Outcomes}
use Rattle.apex_orders.specs.declared.outcome_search.OutcomeSearch.{OutcomeSearch}
use Rattle.apex_orders.specs.declared.outcome_search.Searched.{Searched}
use Rattle.apex_orders.specs.declared.outcome_search.Searched.TheVariants.{All, GivenUp}

-- the invariant of a search of all that can happen to these scripts
pub record IsOutcomeSearch (clock : Bool) (config : Configuration) (scripts : Scripts) (search : OutcomeSearch) : Type 0 where
  pub under_way : IsUnderWay clock config scripts [] search.rounds

-- it is all that can happen to these scripts
pub record AreAllOutcomes (clock : Bool) (config : Configuration) (scripts : Scripts) (found : Outcomes) : Type 0 where
  pub replies : AreRepliesWith clock config scripts found.replies.items
  pub ends : AreEndsWith clock config scripts found.ends.items

-- a search that was given up can go on, and there is a reason why it is undecided, other than memory
pub record CanGoOn (clock : Bool) (can_stop : Type 0) (config : Configuration) (scripts : Scripts) (bound : ℕ) (search : OutcomeSearch) (fault : OrdersFault) : Type 0 where
  pub valid : IsOutcomeSearch clock config scripts search
  pub undecided : IsUndecidedWith {X = Outcomes} clock can_stop config scripts bound (Err fault)
  pub memory : ¬ (fault ≡ OutOfMemory)

-- the search found all that can happen, or was given up and can go on
abbrev pub HasSearched : Bool → Type 0 → Configuration → Scripts → ℕ → Searched → Type 0
HasSearched clock can_stop config scripts bound (All found) = AreAllOutcomes clock config scripts found
HasSearched clock can_stop config scripts bound (GivenUp search fault) = CanGoOn clock can_stop config scripts bound search fault
