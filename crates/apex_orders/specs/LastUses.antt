-- The last calls of scripts that name channels.
use Rattle.std.specs.Prelude.{ℕ, Bool, true, false, ◌≡◌, ◌<◌, ◌≤◌, ◌-◌, ◌^◌, List, length, slice_get, Some}
use Rattle.apex_orders.specs.Prelude.{Call, Moment, Configuration}
use Rattle.apex_orders.specs.declared.last_uses.LastUse.{LastUse}
use Rattle.apex_orders.specs.declared.last_uses.LastUses.{LastUses}
use Rattle.apex_orders.specs.Commuting.{names, changes}
use Rattle.apex_orders.specs.Orders.{Scripts, script_of}

-- those of the script's first n calls that name the channel or can change it are not beyond its last use
pub record IsLastUseBelow (config : Configuration) (p : ℕ) (script : List (Moment × Call)) (n c : ℕ) (last : LastUse) : Type 0 where
  pub named : (k : ℕ) (timed : Moment × Call) → k < n → slice_get script k ≡ Some timed → names config c p timed.1 ≡ true → k < last.named
  pub changed : (k : ℕ) (timed : Moment × Call) → k < n → slice_get script k ≡ Some timed → changes config c p timed.1 ≡ true → k < last.changed

-- this holds for each channel
abbrev pub AreLastUsesBelow : Configuration → ℕ → List (Moment × Call) → ℕ → LastUses → Type 0
AreLastUsesBelow config p script n uses = (c : ℕ) (last : LastUse) → slice_get uses.channels.items c ≡ Some last → IsLastUseBelow config p script n c last

-- and for all calls of the script
abbrev pub AreLastUses : Configuration → ℕ → List (Moment × Call) → LastUses → Type 0
AreLastUses config p script uses = AreLastUsesBelow config p script (length script) uses

-- and for each script, none of which has more calls than can be counted
pub record AreOfScripts (config : Configuration) (scripts : Scripts) (uses : List LastUses) : Type 0 where
  pub count : length uses ≡ length scripts
  pub each : (p : ℕ) (one : LastUses) → slice_get uses p ≡ Some one → AreLastUses config p (script_of scripts p) one
  pub short : (p : ℕ) → p < length scripts → length (script_of scripts p) ≤ 2 ^ 64 - 1

-- the call can't change the channel and, if `named`, doesn't name it
pub record IsQuiet (config : Configuration) (p c : ℕ) (named : Bool) (call : Call) : Type 0 where
  pub unchanged : changes config c p call ≡ false
  pub unnamed : named ≡ true → names config c p call ≡ false

-- this holds for each call of the script from the index on
abbrev pub IsQuietFrom : Configuration → ℕ → List (Moment × Call) → ℕ → Bool → ℕ → Type 0
IsQuietFrom config p script c named made =
    (k : ℕ) (timed : Moment × Call) → made ≤ k → slice_get script k ≡ Some timed → IsQuiet config p c named timed.1
