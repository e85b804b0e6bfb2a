-- What an observer shows.
use Rattle.std.specs.Prelude.{ℕ, List, Option, None, Some}
use Rattle.apex_types.specs.declared.sample.Sample.{Sample}
use Rattle.apex_types.specs.Sample.{validity_at}
use Rattle.apex_observers.specs.declared.sampled.Sampled.{Sampled}
use Rattle.apex_observers.specs.declared.sampled.Sampled.TheVariants as shown
use Rattle.apex_observers.specs.Published.{last_of}

-- a sample with its validity at the moment
abbrev pub sample_shown : ℕ → ℕ → Option Sample → Sampled
sample_shown now refresh None = shown.Empty
sample_shown now refresh (Some sample) = shown.Sample sample.message sample.at (validity_at now sample.at.0 refresh)

-- the last of these writes with its validity at the moment
abbrev pub shown_of : ℕ → ℕ → List Sample → Sampled
shown_of now refresh writes = sample_shown now refresh (last_of writes)
