-- All that can happen to scripts, over every order of their calls.
use Rattle.std.specs.Prelude.{ℕ, Bool, false, ◌≡◌, ◌<◌, ◌↔◌, List, [], ◌∷◌, ◌++◌, length, slice_get, Option, Some, Result, Err, IfOk, IfSome, IfNone}
use Rattle.apex_orders.specs.Prelude.{Reply, Configuration, Entry, History, entries_of}
use Rattle.apex_types.specs.Reply.{code_of}
use Rattle.apex_types.specs.declared.reply.Reply.TheVariants as reply
use Rattle.apex_orders.specs.declared.asked.Admitted.{Admitted}
use Rattle.apex_orders.specs.declared.asked.Admitted.TheVariants as admitted
use Rattle.apex_orders.specs.declared.asked.Asked.{Asked}
use Rattle.apex_orders.specs.declared.orders_fault.OrdersFault.{OrdersFault}
use Rattle.apex_orders.specs.declared.orders_fault.OrdersFault.TheVariants.{OutOfMemory, TooManyStates, Stopped}
use Rattle.apex_orders.specs.declared.replies.PossibleReply.{PossibleReply}
use Rattle.apex_orders.specs.Clock.{IsClocked}
use Rattle.apex_orders.specs.Orders.{Scripts, IsBeginning, IsWay, IsOrder, history_of, replies_of}
use Rattle.apex_orders.specs.Points.{IsSamePoint}
use Rattle.apex_orders.specs.Lists.{Has}

-- some way of all calls gives this reply to the partition's call at the index; with the clock, one on which each call was
-- due
pub record CanOccurWith (clock : Bool) (config : Configuration) (scripts : Scripts) (one : PossibleReply) : Type 0 where
  pub way : History
  pub is_way : IsWay config scripts way
  pub clocked : IsClocked clock scripts way
  pub reply : slice_get (replies_of one.partition way) one.index ≡ Some one.reply

-- the last entry of the history is that of the call at the index, with the reply
pub record EndsWith (history : History) (one : PossibleReply) : Type 0 where
  pub before : History
  pub entry : Entry
  pub whole : history ≡ before ++ entry ∷ []
  pub partition : entry.partition ≡ one.partition
  pub index : one.index ≡ length (entries_of one.partition before)
  pub reply : entry.reply ≡ one.reply

-- the calls in this order are a beginning, which ends with the call at the index and gives it the reply; with the clock,
-- each was due
pub record IsGivenByWith (clock : Bool) (config : Configuration) (scripts : Scripts) (one : PossibleReply) (order : List ℕ) : Type 0 where
  pub valid : IsOrder config order
  pub begins : IsBeginning config scripts (history_of config scripts order)
  pub clocked : IsClocked clock scripts (history_of config scripts order)
  pub reply : slice_get (replies_of one.partition (history_of config scripts order)) one.index ≡ Some one.reply
  pub last : EndsWith (history_of config scripts order) one

-- ---- questions

-- what a reply asks for: a code alone admits every reply with that code
abbrev pub admitted_by : Reply → Admitted
admitted_by (reply.Code code) = admitted.Code code
admitted_by one = admitted.Reply one

-- the reply is the admitted one, or has the admitted code; or it is another one, or has another code or none
abbrev pub Admits : Admitted → Reply → Type 0
Admits (admitted.Reply one) given = given ≡ one
Admits (admitted.Code code) given = code_of given ≡ Some code
Admits (admitted.NotReply one) given = ¬ (given ≡ one)
Admits (admitted.NotCode code) given = ¬ (code_of given ≡ Some code)

-- the replies that are not admitted
abbrev pub others_of : Admitted → Admitted
others_of (admitted.Reply one) = admitted.NotReply one
others_of (admitted.Code code) = admitted.NotCode code
others_of (admitted.NotReply one) = admitted.Reply one
others_of (admitted.NotCode code) = admitted.Code code

-- the reply is to the asked call, and admitted
pub record Answers (asked : Asked) (one : PossibleReply) : Type 0 where
  pub partition : one.partition ≡ asked.partition
  pub index : one.index ≡ asked.index
  pub reply : Admits asked.admitted one.reply

-- some way of all calls gives the asked call an admitted reply
pub record CanBeAnsweredWith (clock : Bool) (config : Configuration) (scripts : Scripts) (asked : Asked) : Type 0 where
  pub one : PossibleReply
  pub answers : Answers asked one
  pub occurs : CanOccurWith clock config scripts one

-- the calls in this order are a beginning, which ends with the asked call and gives it an admitted reply
pub record IsAnsweredByWith (clock : Bool) (config : Configuration) (scripts : Scripts) (asked : Asked) (order : List ℕ) : Type 0 where
  pub one : PossibleReply
  pub answers : Answers asked one
  pub given : IsGivenByWith clock config scripts one order

-- ---- all replies and ends

-- these are the replies that calls can get, and no others
abbrev pub AreRepliesWith : Bool → Configuration → Scripts → List PossibleReply → Type 0
AreRepliesWith clock config scripts replies = (one : PossibleReply) → Has replies one ↔ CanOccurWith clock config scripts one

abbrev pub AreReplies : Configuration → Scripts → List PossibleReply → Type 0
AreReplies config scripts replies = AreRepliesWith false config scripts replies

-- the way leads to the point of one of the orders
pub record EndsAtOne (config : Configuration) (scripts : Scripts) (ends : List (List ℕ)) (way : History) : Type 0 where
  pub order : List ℕ
  pub here : Has ends order
  pub same : IsSamePoint config way (history_of config scripts order)

-- each listed order makes all calls, and each way leads to the point of one of them; with the clock, of those on which
-- each call was due
pub record AreEndsWith (clock : Bool) (config : Configuration) (scripts : Scripts) (ends : List (List ℕ)) : Type 0 where
  pub ways : (order : List ℕ) → Has ends order → IsWay config scripts (history_of config scripts order)
  pub clocked : (order : List ℕ) → Has ends order → IsClocked clock scripts (history_of config scripts order)
  pub all : (way : History) → IsWay config scripts way → IsClocked clock scripts way → EndsAtOne config scripts ends way

abbrev pub AreEnds : Configuration → Scripts → List (List ℕ) → Type 0
AreEnds config scripts ends = AreEndsWith false config scripts ends

-- beginnings lead to more points than the bound; with the clock, those on which each call was due
pub record HasMorePointsWith (clock : Bool) (config : Configuration) (scripts : Scripts) (bound : ℕ) : Type 0 where
  pub histories : List History
  pub many : bound < length histories
  pub beginnings : (history : History) → Has histories history → IsBeginning config scripts history
  pub clocked : (history : History) → Has histories history → IsClocked clock scripts history
  pub apart : (j k : ℕ) (history other : History) → j < k → slice_get histories j ≡ Some history
      → slice_get histories k ≡ Some other → ¬ IsSamePoint config other history

-- it is undecided only if beginnings lead to more points than the bound, or the search was ended by one who can
abbrev pub IsUndecidedWith : {X : Type 0} → Bool → Type 0 → Configuration → Scripts → ℕ → Result X OrdersFault → Type 0
IsUndecidedWith clock can_stop config scripts bound (Err TooManyStates) = HasMorePointsWith clock config scripts bound
IsUndecidedWith clock can_stop config scripts bound (Err Stopped) = can_stop
IsUndecidedWith clock can_stop config scripts bound _ = Unit {0}

abbrev pub IsUndecided : {X : Type 0} → Type 0 → Configuration → Scripts → ℕ → Result X OrdersFault → Type 0
IsUndecided can_stop config scripts bound result = IsUndecidedWith false can_stop config scripts bound result

-- ---- answers

-- what an answer says: an order answers the question, or none does, or it is undecided, for another reason than memory
pub record IsAnswerTo (clock : Bool) (can_stop : Type 0) (config : Configuration) (scripts : Scripts) (bound : ℕ) (asked : Asked) (answer : Result (Option (List ℕ)) OrdersFault) : Type 0 where
  pub found : IfOk answer (λ given. IfSome given (λ order. IsAnsweredByWith clock config scripts asked order))
  pub never : IfOk answer (λ given. IfNone given (¬ CanBeAnsweredWith clock config scripts asked))
  pub undecided : IsUndecidedWith clock can_stop config scripts bound answer
  pub memory : ¬ (answer ≡ Err OutOfMemory)

-- each question has its answer, at its index
pub record AreAnswersTo (clock : Bool) (can_stop : Type 0) (config : Configuration) (scripts : Scripts) (bound : ℕ) (asked : List Asked) (answers : List (Result (Option (List ℕ)) OrdersFault)) : Type 0 where
  pub count : length answers ≡ length asked
  pub each : (k : ℕ) (one : Asked) (answer : Result (Option (List ℕ)) OrdersFault) → slice_get asked k ≡ Some one → slice_get answers k ≡ Some answer
      → IsAnswerTo clock can_stop config scripts bound one answer
