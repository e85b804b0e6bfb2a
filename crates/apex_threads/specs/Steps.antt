-- The steps of a worker.
use Rattle.std.specs.Prelude.{ℕ, ◌≡◌}
use Rattle.apex_threads.specs.declared.steps.Steps.{Steps}

-- the gate let this number of calls through, the board was asked for as many, and each was reported to the gate
pub record IsBetweenCalls {S G : Type 0} (steps : Steps S G) (calls : ℕ) : Type 0 where
  pub passed : steps.passed ≡ calls
  pub asked : steps.asked ≡ calls
  pub heard : steps.heard ≡ calls

-- they are of one partition's worker, with the same gate
pub record IsOfSameWorker {S G : Type 0} (old new : Steps S G) : Type 0 where
  pub partition : new.partition ≡ old.partition
  pub gate : new.gate ≡ old.gate
