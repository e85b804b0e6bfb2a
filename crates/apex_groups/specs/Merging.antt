-- Orders of a part's calls, merged with the calls of the partitions outside by their moments.
use Rattle.std.specs.Prelude.{ℕ, Bool, true, false, ◌≡◌, ◌≤◌, ◌<◌, ◌⊎◌, ◌++◌, ◌∷◌, [], List, length, filter, if◌then◌else◌, slice_get, slice_index_or, Option, Some, None, IfSome}
use Rattle.std.specs.Option.{option_map}
use Rattle.apex_types.specs.declared.call.Call.{Call}
use Rattle.apex_types.specs.declared.moment.Moment.{Moment}
use Rattle.apex_ports.specs.declared.history.Entry.{Entry}
use Rattle.apex_orders.specs.Clock.{IsClocked}
use Rattle.apex_groups.specs.Prelude.{Configuration, History, entries_of, Scripts, script_of, history_of, IsOrder, IsWay, Has}
use Rattle.apex_groups.specs.Groups.{IsPart}

-- ---- next calls

-- the partition's next call after the history
abbrev pub next_of : Scripts → History → ℕ → Option (Moment × Call)
next_of scripts h p = slice_get (script_of scripts p) (length (entries_of p h))

-- the moment by which calls are merged; without the clock, all are 0
abbrev pub moment_of : Bool → Moment × Call → ℕ
moment_of clock timed = if clock then timed.0.0 else 0

-- the moment of the partition's next call after as many calls as were made
abbrev pub next_moment : Bool → Scripts → List ℕ → ℕ → Option ℕ
next_moment clock scripts made p = option_map (moment_of clock) (slice_get (script_of scripts p) (slice_index_or made p 0))

-- not before the limit; without a limit, nothing is
abbrev pub IsPast : Option ℕ → ℕ → Type 0
IsPast None at = ⊥
IsPast (Some limit) at = limit ≤ at

-- no next call of the partitions inside, or of those outside, comes before the limit
abbrev pub AreNextPast : Bool → Scripts → History → (ℕ → Bool) → Bool → Option ℕ → Type 0
AreNextPast clock scripts h inside which limit =
    (p : ℕ) (timed : Moment × Call) → inside p ≡ which → next_of scripts h p ≡ Some timed → IsPast limit (moment_of clock timed)

-- ---- one more call of a partition outside

-- the partition is outside, and its next call is at this moment, which is before the limit
pub record IsBefore (inside : ℕ → Bool) (next : ℕ → Option ℕ) (limit : Option ℕ) (last : Option ℕ) (p : ℕ) : Type 0 where
  pub at : ℕ
  pub is : last ≡ Some at
  pub outside : inside p ≡ false
  pub here : next p ≡ Some at
  pub before : ¬ IsPast limit at

abbrev pub IsFoundBefore : (ℕ → Bool) → (ℕ → Option ℕ) → Option ℕ → Option ℕ → Option ℕ → Type 0
IsFoundBefore inside next limit last None = last ≡ limit
IsFoundBefore inside next limit last (Some p) = IsBefore inside next limit last p

-- of the first partitions outside, this is the one whose next call comes first, if one comes before the limit; none comes
-- before the last moment
pub record IsFirstUntil (inside : ℕ → Bool) (next : ℕ → Option ℕ) (limit : Option ℕ) (count : ℕ) (first last : Option ℕ) : Type 0 where
  pub found : IsFoundBefore inside next limit last first
  pub past : (q at : ℕ) → q < count → inside q ≡ false → next q ≡ Some at → IsPast last at
  pub within : IfSome first (λ p. p < count)

pub record IsFirst (inside : ℕ → Bool) (next : ℕ → Option ℕ) (limit : Option ℕ) (count : ℕ) (first : Option ℕ) : Type 0 where
  pub last : Option ℕ
  pub is : IsFirstUntil inside next limit count first last

-- ---- merged orders

-- so many calls of each partition does the order make
pub record AreCounted (config : Configuration) (scripts : Scripts) (order made : List ℕ) : Type 0 where
  pub count : length made ≡ length config.partitions
  pub valid : IsOrder config order
  pub each : (p : ℕ) → p < length config.partitions → slice_index_or made p 0 ≡ length (entries_of p (history_of config scripts order))

-- the new order continues the old one by the calls outside that come before the limit; if no call inside does, each was due
pub record AreAdded (clock : Bool) (config : Configuration) (scripts : Scripts) (inside : ℕ → Bool) (limit : Option ℕ) (old new : List ℕ) : Type 0 where
  pub same : filter inside new ≡ filter inside old
  pub clocked : AreNextPast clock scripts (history_of config scripts old) inside true limit → IsClocked clock scripts (history_of config scripts old)
      → IsClocked clock scripts (history_of config scripts new)
  pub past : AreNextPast clock scripts (history_of config scripts new) inside false limit

-- the part's calls by themselves have this order; each is due
pub record IsOfPart (clock : Bool) (config : Configuration) (inside : ℕ → Bool) (scripts : Scripts) (order : List ℕ) : Type 0 where
  pub part : Scripts
  pub is : IsPart inside scripts part
  pub clocked : IsClocked clock part (history_of config part order)

-- and all of them are made
pub record IsEndOfPart (clock : Bool) (config : Configuration) (inside : ℕ → Bool) (scripts : Scripts) (order : List ℕ) : Type 0 where
  pub of_part : IsOfPart clock config inside scripts order
  pub is_way : IsWay config of_part.part (history_of config of_part.part order)

-- if the one history ends with a partition's call, so does the other
abbrev pub EndsAlike : History → History → Type 0
EndsAlike h g =
    (before : History) (e : Entry) → g ≡ before ++ e ∷ []
    → (ahead : History) × (x : Entry) × (h ≡ ahead ++ x ∷ []) × (x.partition ≡ e.partition)

-- the calls inside come in the same order, and each call is due
pub record IsMerged (clock : Bool) (config : Configuration) (scripts : Scripts) (inside : ℕ → Bool) (order whole : List ℕ) : Type 0 where
  pub same : history_of config scripts (filter inside whole) ≡ history_of config scripts (filter inside order)
  pub clocked : IsClocked clock scripts (history_of config scripts whole)
  pub ends : EndsAlike (history_of config scripts whole) (history_of config scripts (filter inside order))

-- the calls inside come in the same order, all calls are made, and each is due
pub record IsWholeOf (clock : Bool) (config : Configuration) (scripts : Scripts) (inside : ℕ → Bool) (order whole : List ℕ) : Type 0 where
  pub same : history_of config scripts (filter inside whole) ≡ history_of config scripts (filter inside order)
  pub is_way : IsWay config scripts (history_of config scripts whole)
  pub clocked : IsClocked clock scripts (history_of config scripts whole)

-- one of the orders is such an order
pub record HasWholeOf (clock : Bool) (config : Configuration) (scripts : Scripts) (inside : ℕ → Bool) (all : List (List ℕ)) (order : List ℕ) : Type 0 where
  pub whole : List ℕ
  pub here : Has all whole
  pub is : IsWholeOf clock config scripts inside order whole

-- ---- ends

-- an order of all calls, each of them due
pub record IsClockedWay (clock : Bool) (config : Configuration) (scripts : Scripts) (order : List ℕ) : Type 0 where
  pub is_way : IsWay config scripts (history_of config scripts order)
  pub clocked : IsClocked clock scripts (history_of config scripts order)

-- for each end of the part an order of all calls was added, and nothing else
pub record AreEndsAdded (clock : Bool) (config : Configuration) (inside : ℕ → Bool) (scripts : Scripts) (ends old new : List (List ℕ)) : Type 0 where
  pub kept : (order : List ℕ) → Has old order → Has new order
  pub each : (order : List ℕ) → Has new order → Has old order ⊎ IsClockedWay clock config scripts order
  pub every : (order : List ℕ) → Has ends order → HasWholeOf clock config scripts inside new order
