-- The age of a sample.
use Rattle.std.specs.Prelude.{ℕ, ◌+◌, nat_le, if◌then◌else◌}
use Rattle.apex_types.specs.declared.validity.Validity.{Validity}
use Rattle.apex_types.specs.declared.validity.Validity.TheVariants.{Valid, Invalid}

-- a sample is valid up to its refresh period after it was written, that moment included (this project's own choice)
abbrev pub validity_at : ℕ → ℕ → ℕ → Validity
validity_at now written refresh = if nat_le now (written + refresh) then Valid else Invalid
