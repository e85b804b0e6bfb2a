-- Counts in 64 bits. A count at its maximum stays there.
use Rattle.std.specs.Prelude.{ℕ, ◌^◌, ◌-◌, List, length, min}

-- the length of a list, or the maximum count if the list is longer
abbrev pub count_of : {X : Type 0} → List X → ℕ
count_of xs = min (length xs) (2 ^ 64 - 1)
