-- The plan by which requests for memory are refused.
use Rattle.std.specs.Prelude.{ℕ, ◌+◌, ◌<◌, ◌≤◌}

-- The first `pass` requests are let through, the next `refuse` are refused. `request` counts from 0.
abbrev pub IsRefused : ℕ → ℕ → ℕ → Type 0
IsRefused pass refuse request = (pass ≤ request) × (request < pass + refuse)
