-- Moments of one clock.
use Rattle.std.specs.Prelude.{ℕ, Bool, true, ◌≡◌, ◌≤◌, ◌+◌, List, ◌∷◌, ◌++◌, length, take, slice_get, Some}
use Rattle.apex_orders.specs.Prelude.{Call, Moment, Configuration, Entry, History, entries_of}
use Rattle.apex_orders.specs.Orders.{Scripts, script_of, IsWay}

-- with the clock, no partition's next call after the history has a smaller moment
abbrev pub IsDue : Bool → Scripts → History → Moment → Type 0
IsDue clock scripts h at =
    clock ≡ true → (q : ℕ) (timed : Moment × Call)
    → slice_get (script_of scripts q) (length (entries_of q h)) ≡ Some timed → at.0 ≤ timed.0.0

-- the partition's next call, if it has one, is due
abbrev pub IsNextDue : Bool → Scripts → History → ℕ → Type 0
IsNextDue clock scripts h p =
    (timed : Moment × Call) → slice_get (script_of scripts p) (length (entries_of p h)) ≡ Some timed
    → IsDue clock scripts h timed.0

-- each call was due when it was made
abbrev pub IsClocked : Bool → Scripts → History → Type 0
IsClocked clock scripts h = (k : ℕ) (e : Entry) → slice_get h k ≡ Some e → IsDue clock scripts (take k h) e.at

-- ---- moments that never fall

-- no call of the script has a smaller moment than the call before it
abbrev pub IsAscending : List (Moment × Call) → Type 0
IsAscending script =
    (k : ℕ) (one next : Moment × Call) → slice_get script k ≡ Some one → slice_get script (k + 1) ≡ Some next
    → one.0.0 ≤ next.0.0

-- if moments never fall within a script, they never fall on a way by the clock
abbrev pub ClockedNeverFalls : Type 0
ClockedNeverFalls = (config : Configuration) (scripts : Scripts) (h : History) (e f : Entry) (rest : History)
    → ((p : ℕ) → IsAscending (script_of scripts p)) → IsWay config scripts (h ++ e ∷ f ∷ rest)
    → IsClocked true scripts (h ++ e ∷ f ∷ rest) → e.at.0 ≤ f.at.0
