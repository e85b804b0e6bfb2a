-- The tests of ends, by the counts of all channels.
use Rattle.apex_config.proofs.Common.{◌≡◌, ℕ, ◌+◌, ◌-◌, ◌^◌, Bool, nat_le, min, List, ap, ◌∙◌, arith, Direction, ConfigText, whole, unless, at_each, end_count, without_end, CountEnds}
use Rattle.apex_config.specs.declared.place.Part.TheVariants as part
use Rattle.apex_config.proofs.EachEntry.{same_found}

pub some_of_most : (count : ℕ) → nat_le 1 (min count (2 ^ 64 - 1)) ≡ nat_le 1 count
some_of_most count = grind arith

-- the channels without an end are those with the count 0
pub ends_counted : (direction : Direction) (config : ConfigText) (counts : List ℕ) → CountEnds direction config.channels config.partitions counts
    → at_each (λ c count. unless (nat_le 1 count) (whole (part.Channel c))) 0 counts ≡ at_each (without_end direction config) 0 config.channels
ends_counted direction config counts are =
    same_found (λ c count. unless (nat_le 1 count) (whole (part.Channel c))) (without_end direction config) 0 counts config.channels 0 are.0
    (λ i channel inside. ap (λ (passes : Bool). unless passes (whole (part.Channel (0 + i)))) (
    ap (λ (n : ℕ). nat_le 1 n) (are.1 i inside)
    ∙ some_of_most (end_count config.channels direction i config.partitions)
    ∙ ap (λ (m : ℕ). nat_le 1 (end_count config.channels direction m config.partitions)) (omega arith)
    ))
