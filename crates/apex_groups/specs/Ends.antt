-- Questions about what a channel counts after all calls.
use Rattle.std.specs.Prelude.{ℕ, Bool, ◌≡◌, ◌<◌, ◌≤◌, List, length, slice_get, Option, Some, None, IfSome, IfNone}
use Rattle.apex_groups.specs.Prelude.{Configuration, accepted_on, received_on, cleared_on, waiting_on, History, Has, Scripts, IsWay, history_of}
use Rattle.apex_ports.specs.Counts.{count_of}
use Rattle.apex_orders.specs.Clock.{IsClocked}
use Rattle.apex_groups.specs.declared.asked_end.AskedEnd.{AskedEnd}
use Rattle.apex_groups.specs.declared.asked_end.Comparison.{Comparison}
use Rattle.apex_groups.specs.declared.asked_end.Comparison.TheVariants as comparison
use Rattle.apex_groups.specs.declared.asked_end.Count.{Count}
use Rattle.apex_groups.specs.declared.asked_end.Count.TheVariants as count

-- how many messages the channel accepted, how many were received or cleared, or how many wait
abbrev pub count_after : Configuration → History → ℕ → Count → ℕ
count_after config history c count.Accepted = count_of (accepted_on config c history)
count_after config history c count.Received = count_of (received_on config c history)
count_after config history c count.Cleared = count_of (cleared_on config c history)
count_after config history c count.Waiting = length (waiting_on config c history)

-- the number compares so with the other
abbrev pub Compares : Comparison → ℕ → ℕ → Type 0
Compares comparison.Equal a b = a ≡ b
Compares comparison.AtMost a b = a ≤ b
Compares comparison.AtLeast a b = b ≤ a
Compares comparison.Less a b = a < b
Compares comparison.More a b = b < a

-- the history has the end that is asked for
abbrev pub IsSuchEnd : Configuration → AskedEnd → History → Type 0
IsSuchEnd config asked history =
    Compares asked.comparison (count_after config history asked.channel asked.count) asked.number

-- the order is one of these, and leads to such an end; `None` if no order does, or if there is no such channel
abbrev pub FindsEnd : Configuration → Scripts → List (List ℕ) → AskedEnd → Option (List ℕ) → Type 0
FindsEnd config scripts orders asked (Some order) = Has orders order × IsSuchEnd config asked (history_of config scripts order)
FindsEnd config scripts orders asked None =
    asked.channel < length config.channels → (order : List ℕ) → Has orders order → ¬ IsSuchEnd config asked (history_of config scripts order)

-- so is each of the answers, at its index
pub record FindEnds (config : Configuration) (scripts : Scripts) (orders : List (List ℕ)) (asked : List AskedEnd) (answers : List (Option (List ℕ))) : Type 0 where
  pub count : length answers ≡ length asked
  pub each : (k : ℕ) (one : AskedEnd) (answer : Option (List ℕ)) → slice_get asked k ≡ Some one → slice_get answers k ≡ Some answer
      → FindsEnd config scripts orders one answer

-- the order makes all calls, and leads to such an end; with the clock, each call was due
pub record LeadsToEnd (clock : Bool) (config : Configuration) (scripts : Scripts) (asked : AskedEnd) (order : List ℕ) : Type 0 where
  pub is_way : IsWay config scripts (history_of config scripts order)
  pub clocked : IsClocked clock scripts (history_of config scripts order)
  pub such : IsSuchEnd config asked (history_of config scripts order)

-- there is such a channel, and some way of all calls has such an end; with the clock, one on which each call was due
pub record HasSuchEnd (clock : Bool) (config : Configuration) (scripts : Scripts) (asked : AskedEnd) : Type 0 where
  pub channel : asked.channel < length config.channels
  pub way : History
  pub is_way : IsWay config scripts way
  pub clocked : IsClocked clock scripts way
  pub such : IsSuchEnd config asked way

-- what an answer says: an order leads to the end, or none does
pub record IsEndAnswer (clock : Bool) (config : Configuration) (scripts : Scripts) (asked : AskedEnd) (answer : Option (List ℕ)) : Type 0 where
  pub found : IfSome answer (λ order. LeadsToEnd clock config scripts asked order)
  pub never : IfNone answer (¬ HasSuchEnd clock config scripts asked)

-- each question has its answer, at its index
pub record AreEndAnswers (clock : Bool) (config : Configuration) (scripts : Scripts) (asked : List AskedEnd) (answers : List (Option (List ℕ))) : Type 0 where
  pub count : length answers ≡ length asked
  pub each : (k : ℕ) (one : AskedEnd) (answer : Option (List ℕ)) → slice_get asked k ≡ Some one → slice_get answers k ≡ Some answer
      → IsEndAnswer clock config scripts one answer
