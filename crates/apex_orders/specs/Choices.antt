-- Partitions whose next calls are tried.
use Rattle.std.specs.Prelude.{ℕ, Bool, false, ◌≡◌, ◌⊎◌, List, length, slice_get, Some, unwrap_or}
use Rattle.apex_orders.specs.Prelude.{Call, Moment, Configuration, History, entries_of}
use Rattle.apex_orders.specs.declared.choice.NextUse.{NextUse}
use Rattle.apex_orders.specs.declared.choice.NextUse.TheVariants.{NoCall, NoChannel, Channel}
use Rattle.apex_orders.specs.Commuting.{channel_named, is_change, names}
use Rattle.apex_orders.specs.Enough.{HasNext, IsApartFromRest, IsRefusedEarly}
use Rattle.apex_orders.specs.LastUses.{IsQuietFrom}
use Rattle.apex_orders.specs.Orders.{Scripts, script_of}

-- the partition is in the set
abbrev pub is_tried : List Bool → ℕ → Bool
is_tried tried p = unwrap_or (slice_get tried p) false

-- the call is refused early, or names no channel
abbrev pub HasNoChannel : Configuration → History → ℕ → Moment × Call → Type 0
HasNoChannel config h p timed = IsRefusedEarly config h p timed ⊎ ((c : ℕ) → names config c p timed.1 ≡ false)

-- the partition has a next call that satisfies this
pub record IsNextCall (scripts : Scripts) (h : History) (p : ℕ) (IsOne : Moment × Call → Type 0) : Type 0 where
  pub timed : Moment × Call
  pub at : slice_get (script_of scripts p) (length (entries_of p h)) ≡ Some timed
  pub is : IsOne timed

-- the call names the channel, and is a change or isn't
abbrev pub IsOnChannel : Configuration → ℕ → ℕ → Bool → Moment × Call → Type 0
IsOnChannel config p channel change timed = (channel_named config p timed.1 ≡ Some channel) × (is_change timed.1 ≡ change)

-- how the partition's next call concerns others
abbrev pub IsNextUse : Configuration → Scripts → History → ℕ → NextUse → Type 0
IsNextUse config scripts h p NoCall = Unit {0}
IsNextUse config scripts h p NoChannel = IsNextCall scripts h p (HasNoChannel config h p)
IsNextUse config scripts h p (Channel channel change) = IsNextCall scripts h p (IsOnChannel config p channel change)

pub record AreNextUses (config : Configuration) (scripts : Scripts) (h : History) (nexts : List NextUse) : Type 0 where
  pub count : length nexts ≡ length scripts
  pub each : (p : ℕ) (next : NextUse) → slice_get nexts p ≡ Some next → IsNextUse config scripts h p next

-- the partition has a next call, which is refused early or apart from what the others have yet to call
pub record IsSafeToTry (config : Configuration) (scripts : Scripts) (h : History) (tried : ℕ → Bool) (p : ℕ) : Type 0 where
  pub some : HasNext scripts h p
  pub local : (timed : Moment × Call) → slice_get (script_of scripts p) (length (entries_of p h)) ≡ Some timed
      → IsRefusedEarly config h p timed ⊎ IsApartFromRest config scripts h tried p timed.1

-- no partition outside the set has yet to make a call that can change the channel or, if `named`, names it
abbrev pub IsQuietOutside : Configuration → Scripts → History → (ℕ → Bool) → ℕ → Bool → Type 0
IsQuietOutside config scripts h tried channel named =
    (q : ℕ) → tried q ≡ false → IsQuietFrom config q (script_of scripts q) channel named (length (entries_of q h))
