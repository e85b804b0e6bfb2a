-- Two neighbouring calls that decide which reply a call gets.
use Rattle.std.specs.Prelude.{ℕ, Bool, ◌≡◌, ◌≢◌, List, ◌∷◌, ◌++◌, slice_get, Option, Some, None}
use Rattle.apex_groups.specs.Prelude.{Configuration, History, Asked, Scripts, IsBeginning, IsOrder, IsAnsweredByWith, CanBeAnsweredWith, history_of, replies_of}
use Rattle.apex_types.specs.declared.reply.Reply.{Reply}
use Rattle.apex_orders.specs.Clock.{IsClocked}
use Rattle.apex_orders.specs.Outcomes.{Admits, others_of}
use Rattle.apex_groups.specs.declared.deciding.Reason.{Reason}
use Rattle.apex_groups.specs.declared.deciding.Reason.TheVariants as reason
use Rattle.apex_groups.specs.declared.decision.Decision.{Decision}
use Rattle.apex_groups.specs.declared.two_orders.TwoOrders.{TwoOrders}

-- the order in which the first of the two calls comes before the second
abbrev pub given_order : TwoOrders → List ℕ
given_order orders = orders.before.items ++ orders.first ∷ orders.second ∷ orders.after.items

-- the same calls, with the second before the first
abbrev pub other_order : TwoOrders → List ℕ
other_order orders = orders.before.items ++ orders.second ∷ orders.first ∷ orders.after.items

-- the calls in this order are a beginning of the scripts, and the asked call gets the reply; with the clock, each was due
pub record ShowsReply (clock : Bool) (config : Configuration) (scripts : Scripts) (asked : Asked) (given : Reply) (order : List ℕ) : Type 0 where
  pub valid : IsOrder config order
  pub begins : IsBeginning config scripts (history_of config scripts order)
  pub clocked : IsClocked clock scripts (history_of config scripts order)
  pub reply : slice_get (replies_of asked.partition (history_of config scripts order)) asked.index ≡ Some given

-- the history gives the asked call this reply, if one is known
abbrev pub HasReply : Asked → History → Option Reply → Type 0
HasReply asked history (Some reply) = slice_get (replies_of asked.partition history) asked.index ≡ Some reply
HasReply asked history None = Unit {0}

-- the two calls are those of two partitions, and the asked call gets an admitted reply if the first comes before the
-- second, and another reply if it comes after
pub record Decides (clock : Bool) (config : Configuration) (scripts : Scripts) (asked : Asked) (decision : Decision) : Type 0 where
  pub apart : decision.orders.first ≢ decision.orders.second
  pub given : ShowsReply clock config scripts asked decision.given (given_order decision.orders)
  pub other : ShowsReply clock config scripts asked decision.other (other_order decision.orders)
  pub admitted : Admits asked.admitted decision.given
  pub refused : ¬ Admits asked.admitted decision.other

-- the same call, asked for the replies that are not admitted
abbrev pub asked_others : Asked → Asked
asked_others asked = record { partition = asked.partition; index = asked.index; admitted = others_of asked.admitted }

-- the two calls decide; or no way gives the call an admitted reply, or none another one; or two orders show that some
-- do, and some do not
abbrev pub IsReason : Bool → Configuration → Scripts → Asked → Reason → Type 0
IsReason clock config scripts asked (reason.Decided decision) = Decides clock config scripts asked decision
IsReason clock config scripts asked reason.Never = ¬ CanBeAnsweredWith clock config scripts asked
IsReason clock config scripts asked reason.Always = ¬ CanBeAnsweredWith clock config scripts (asked_others asked)
IsReason clock config scripts asked (reason.Open given other) =
    IsAnsweredByWith clock config scripts asked given × IsAnsweredByWith clock config scripts (asked_others asked) other
