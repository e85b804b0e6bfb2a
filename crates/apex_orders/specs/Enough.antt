-- After which histories it is enough to try the next calls of some partitions.
use Rattle.std.specs.Prelude.{ℕ, Bool, true, false, not, ◌≡◌, ◌<◌, ◌≤◌, ◌⊎◌, List, [], ◌∷◌, ◌++◌, length, slice_get, Some}
use Rattle.apex_orders.specs.Prelude.{Call, Moment, Configuration, Entry, Row, History, entries_of, row_of, seen}
use Rattle.apex_ports.specs.declared.rows.Refusal.{Refusal}
use Rattle.apex_ports.specs.declared.rows.Refusal.TheVariants.{QueueFull, QueueEmpty, NeverWritten}
use Rattle.apex_ports.specs.declared.rows.Row.TheVariants.{Idle, Refused}
use Rattle.apex_orders.specs.Orders.{Scripts, script_of, IsBeginning, IsWay, next_entries}
use Rattle.apex_orders.specs.Commuting.{IsApart}
use Rattle.apex_orders.specs.Points.{IsSamePoint}

-- the refusals that depend on what the channel holds
abbrev pub is_late : Refusal → Bool
is_late QueueFull = true
is_late QueueEmpty = true
is_late NeverWritten = true
is_late _ = false

-- the call is refused, or not made, before the channel is read
abbrev pub is_early : Row → Bool
is_early Idle = true
is_early (Refused refusal) = not (is_late refusal)
is_early _ = false

abbrev pub IsRefusedEarly : Configuration → History → ℕ → Moment × Call → Type 0
IsRefusedEarly config h p timed = is_early (row_of config (seen config h p) p timed.0 timed.1) ≡ true

-- the call is apart from each call that an untried partition has yet to make after the history
abbrev pub IsApartFromRest : Configuration → Scripts → History → (ℕ → Bool) → ℕ → Call → Type 0
IsApartFromRest config scripts h tried p call =
    (q k : ℕ) (timed : Moment × Call) → tried q ≡ false → length (entries_of q h) ≤ k
    → slice_get (script_of scripts q) k ≡ Some timed → IsApart config p call q timed.1

-- the partition has a call to make after the history
abbrev pub HasNext : Scripts → History → ℕ → Type 0
HasNext scripts h p = length (entries_of p h) < length (script_of scripts p)

-- it is enough to try these partitions after the history: if any partition has a call to make, one of these has, and
-- the next call of each of these is refused early or apart from what the others have yet to call
pub record IsEnough (config : Configuration) (scripts : Scripts) (h : History) (tried : ℕ → Bool) : Type 0 where
  pub some : (q : ℕ) → HasNext scripts h q → (p : ℕ) × (tried p ≡ true) × HasNext scripts h p
  pub local : (p : ℕ) (timed : Moment × Call) → tried p ≡ true → slice_get (script_of scripts p) (length (entries_of p h)) ≡ Some timed
      → IsRefusedEarly config h p timed ⊎ IsApartFromRest config scripts h tried p timed.1

-- both ways are the same to each partition, and lead to one point
pub record IsSameWay (config : Configuration) (way other : History) : Type 0 where
  pub entries : (p : ℕ) → entries_of p other ≡ entries_of p way
  pub point : IsSamePoint config way other

-- each call is among those that are tried when it comes
abbrev pub AreAmongTried : (History → ℕ → Bool) → History → List Entry → Type 0
AreAmongTried choice h [] = Unit {0}
AreAmongTried choice h (e ∷ rest) = (choice h e.partition ≡ true) × AreAmongTried choice (h ++ e ∷ []) rest

-- a way whose calls are all tried is the same as this one
pub record HasSameAmong (config : Configuration) (scripts : Scripts) (choice : History → ℕ → Bool) (way : History) : Type 0 where
  pub other : History
  pub is_way : IsWay config scripts other
  pub tried : AreAmongTried choice [] other
  pub same : IsSameWay config way other

-- a search that tries enough finds each way, or one that is the same
abbrev pub TryingEnoughIsEnough : Type 0
TryingEnoughIsEnough = (config : Configuration) (scripts : Scripts) (choice : History → ℕ → Bool) (way : History)
    → ((h : History) → IsBeginning config scripts h → IsEnough config scripts h (choice h))
    → IsWay config scripts way → HasSameAmong config scripts choice way

-- a way that continues the history by a tried call is the same as the one that continues by x and the others
pub record HasSameByTried (config : Configuration) (scripts : Scripts) (h : History) (tried : ℕ → Bool) (x : Entry) (more : List Entry) : Type 0 where
  pub e : Entry
  pub rest : List Entry
  pub own : tried e.partition ≡ true
  pub next : next_entries config scripts h e.partition ≡ e ∷ []
  pub is_way : IsWay config scripts (h ++ e ∷ rest)
  pub as_long : length rest ≡ length more
  pub same : IsSameWay config (h ++ x ∷ more) (h ++ e ∷ rest)

-- one step: if it is enough to try these partitions, each way that continues is the same as one that continues by one
-- of them
abbrev pub EnoughGoesFirst : Type 0
EnoughGoesFirst = (config : Configuration) (scripts : Scripts) (h : History) (tried : ℕ → Bool) (x : Entry) (more : List Entry)
    → IsEnough config scripts h tried → IsWay config scripts (h ++ x ∷ more) → HasSameByTried config scripts h tried x more
