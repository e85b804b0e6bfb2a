-- Calls at which a worker was held.
use Rattle.std.specs.Prelude.{ℕ, ◌≡◌, ◌<◌, ◌≤◌, List, length, slice_get, Some}
use Rattle.apex_types.specs.declared.call.Call.{Call}
use Rattle.apex_types.specs.declared.moment.Moment.{Moment}
use Rattle.apex_ports.specs.declared.run_fault.RunFault.{RunFault}
use Rattle.apex_ports.specs.declared.run_fault.RunFault.TheVariants.{Held}

-- the partition's script has the call, counted from 1, and the gate may refuse it
pub record IsHeldCall (may_refuse : ℕ → ℕ → Type 0) (scripts : List (List (Moment × Call))) (partition n : ℕ) : Type 0 where
  pub script : List (Moment × Call)
  pub partition_has : slice_get scripts partition ≡ Some script
  pub partition_within : partition < length scripts
  pub from_one : 1 ≤ n
  pub within : n ≤ length script
  pub allowed : may_refuse partition n

-- a fault that reports a held worker names such a call
abbrev pub NamesHeldCall : (ℕ → ℕ → Type 0) → List (List (Moment × Call)) → RunFault → Type 0
NamesHeldCall may_refuse scripts (Held partition n) = IsHeldCall may_refuse scripts partition n
NamesHeldCall may_refuse scripts _ = Unit {0}
