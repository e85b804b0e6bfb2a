-- What a sampling channel holds.
use Rattle.std.specs.Prelude.{ℕ, List, [], ◌∷◌, Option, None, Some}
use Rattle.apex_types.specs.declared.moment.Moment.{Moment}
use Rattle.apex_types.specs.declared.sample.Sample.{Sample}

-- the sample written last, and the maximum length of a message, in bytes
pub record Slot : Type 0 where
  pub sample : Option Sample
  pub size : ℕ

abbrev pub slot : Option Sample → ℕ → Slot
slot sample size = record { sample = sample; size = size }

-- the sample whose message is the first of these
abbrev pub sample_held : List (List ℕ) → Moment → Option Sample
sample_held [] at = None
sample_held (message ∷ rest) at = Some (record { message = message; at = at })
