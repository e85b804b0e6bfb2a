-- What is found for the scripts of each part.
use Rattle.std.specs.Prelude.{ℕ, ◌<◌, ◌↔◌, Bool, List, length, Result, Err, false, ◌≡◌}
use Rattle.apex_groups.specs.Prelude.{Configuration, History, Scripts, IsWay, AreRepliesWith, CanOccurWith, HasMorePointsWith, Has, PossibleReply}
use Rattle.apex_orders.specs.Clock.{IsClocked}
use Rattle.apex_groups.specs.Counts.{ShowAllCounts, ShowsCounts}
use Rattle.apex_groups.specs.Groups.{IsPart, group_of}
use Rattle.apex_groups.specs.Merging.{IsClockedWay}
use Rattle.apex_groups.specs.Parts.{part_of_index}
use Rattle.apex_groups.specs.declared.parts.Parts.{Parts}
use Rattle.apex_orders.specs.declared.orders_fault.OrdersFault.{OrdersFault}
use Rattle.apex_orders.specs.declared.orders_fault.OrdersFault.TheVariants.{Stopped, TooManyStates}
use Rattle.apex_orders.specs.declared.outcomes.Outcomes.{Outcomes}

-- ---- one part

-- what is found says everything about the scripts of the partitions inside
pub record IsFoundOf (clock : Bool) (config : Configuration) (inside : ℕ → Bool) (scripts : Scripts) (found : Outcomes) : Type 0 where
  pub part : Scripts
  pub is : IsPart inside scripts part
  pub replies : AreRepliesWith clock config part found.replies.items
  pub ends : ShowAllCounts clock config part found.ends.items

-- it is undecided only as a search of all scripts may be; with the clock, nothing is said of a part with too many points
abbrev pub IsUndecidedApart : {X : Type 0} → Bool → Type 0 → Configuration → Scripts → ℕ → Result X OrdersFault → Type 0
IsUndecidedApart clock can_stop config scripts bound (Err TooManyStates) = clock ≡ false → HasMorePointsWith clock config scripts bound
IsUndecidedApart clock can_stop config scripts bound (Err Stopped) = can_stop
IsUndecidedApart clock can_stop config scripts bound _ = Unit {0}

-- ---- the parts searched so far

-- these are the replies that calls of the first parts can get
abbrev pub AreRepliesBelow : Bool → Configuration → Scripts → Parts → ℕ → List PossibleReply → Type 0
AreRepliesBelow clock config scripts parts count replies =
    (one : PossibleReply) → Has replies one
    ↔ (CanOccurWith clock config scripts one × (part_of_index config parts scripts one.partition one.index < count))

-- each listed order makes all calls, and whatever a channel of the first parts counts after a way, it counts after one of
-- them; with the clock, of those on which each call was due
pub record ShowCountsBelow (clock : Bool) (config : Configuration) (scripts : Scripts) (parts : Parts) (count : ℕ) (ends : List (List ℕ)) : Type 0 where
  pub ways : (order : List ℕ) → Has ends order → IsClockedWay clock config scripts order
  pub counts : (c : ℕ) → c < length config.channels → group_of parts.of_channels.items c < count
      → (way : History) → IsWay config scripts way → IsClocked clock scripts way → ShowsCounts config scripts ends way c
