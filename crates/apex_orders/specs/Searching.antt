-- What a search has found.
use Rattle.std.specs.Prelude.{ℕ, Bool, true, false, ◌≡◌, ◌↔◌, ◌<◌, ◌≤◌, List, ◌∷◌, [], ◌++◌, length, slice_get, Option, Some, None, Result, Ok, Err}
use Rattle.apex_orders.specs.Prelude.{Configuration, History}
use Rattle.apex_orders.specs.declared.answer.NextReply.{NextReply}
use Rattle.apex_orders.specs.declared.asked.Asked.{Asked}
use Rattle.apex_orders.specs.declared.replies.PossibleReply.{PossibleReply}
use Rattle.apex_orders.specs.declared.orders_fault.OrdersFault.{OrdersFault}
use Rattle.apex_orders.specs.declared.orders_fault.OrdersFault.TheVariants.{OutOfMemory, TooManyStates, Stopped}
use Rattle.apex_orders.specs.declared.rounds.Found.{Found}
use Rattle.apex_orders.specs.declared.search.Search.{Search}
use Rattle.apex_orders.specs.Clock.{IsClocked, IsNextDue}
use Rattle.apex_orders.specs.Enough.{IsEnough, HasNext}
use Rattle.apex_orders.specs.Hashes.{mix}
use Rattle.apex_orders.specs.Known.{AreLevels, ArePoints}
use Rattle.apex_orders.specs.LastUses.{AreOfScripts}
use Rattle.apex_orders.specs.Orders.{Scripts, script_of, calls_of, times, AreShort, IsOrder, history_of}
use Rattle.apex_orders.specs.Outcomes.{Answers, IsAnsweredByWith}
use Rattle.apex_orders.specs.Points.{IsSamePoint}
use Rattle.apex_orders.specs.Lists.{Has}
use Rattle.apex_orders.specs.Steps.{Makes}

-- one of the orders leads to the history's point
pub record Knows (config : Configuration) (scripts : Scripts) (orders : List (List ℕ)) (history : History) : Type 0 where
  pub order : List ℕ
  pub here : Has orders order
  pub same : IsSamePoint config history (history_of config scripts order)

-- each item of one list is at its index in the other
abbrev pub Keeps : {X : Type 0} → List X → List X → Type 0
Keeps {X} old new = (k : ℕ) (x : X) → slice_get old k ≡ Some x → slice_get new k ≡ Some x

-- each item of one list is in the other
abbrev pub Includes : {X : Type 0} → List X → List X → Type 0
Includes {X} old new = (x : X) → Has old x → Has new x

-- each is an order
abbrev pub AreOrders : Configuration → List (List ℕ) → Type 0
AreOrders config orders = (k : ℕ) (order : List ℕ) → slice_get orders k ≡ Some order → IsOrder config order

-- the point that the partition's next call after the order leads to is known, and so is the reply that it gets
pub record IsTried (config : Configuration) (scripts : Scripts) (orders : List (List ℕ)) (replies : List PossibleReply) (order : List ℕ) (p : ℕ) : Type 0 where
  pub point : Knows config scripts orders (history_of config scripts (order ++ p ∷ []))
  pub reply : (one : PossibleReply) → Makes config scripts (history_of config scripts order) p one → Has replies one

-- each reply is given after an order
pub record IsFound (clock : Bool) (config : Configuration) (scripts : Scripts) (one : PossibleReply) : Type 0 where
  pub order : List ℕ
  pub valid : IsOrder config order
  pub partition : ℕ
  pub within : partition < length config.partitions
  pub makes : Makes config scripts (history_of config scripts order) partition one
  pub due : IsNextDue clock scripts (history_of config scripts order) partition
  pub clocked : IsClocked clock scripts (history_of config scripts order)

abbrev pub AreFound : Bool → Configuration → Scripts → List PossibleReply → Type 0
AreFound clock config scripts replies = (one : PossibleReply) → Has replies one → IsFound clock config scripts one

-- after the order, the partition's next call is the one at the index, and gets the reply
pub record IsGivenAfter (clock : Bool) (config : Configuration) (scripts : Scripts) (order : List ℕ) (one : PossibleReply) : Type 0 where
  pub within : one.partition < length config.partitions
  pub makes : Makes config scripts (history_of config scripts order) one.partition one
  pub due : IsNextDue clock scripts (history_of config scripts order) one.partition

-- this holds after one of the orders
pub record IsGivenByAnOrder (clock : Bool) (config : Configuration) (scripts : Scripts) (orders : List (List ℕ)) (one : PossibleReply) : Type 0 where
  pub order : List ℕ
  pub here : Has orders order
  pub given : IsGivenAfter clock config scripts order one

-- no two of the orders lead to one point
abbrev pub AreApart : Configuration → Scripts → List (List ℕ) → Type 0
AreApart config scripts orders =
    (j k : ℕ) (order other : List ℕ) → j < k → slice_get orders j ≡ Some order → slice_get orders k ≡ Some other
    → ¬ IsSamePoint config (history_of config scripts other) (history_of config scripts order)

-- in each order, each call was due when it was made
abbrev pub AreClocked : Bool → Configuration → Scripts → List (List ℕ) → Type 0
AreClocked clock config scripts orders =
    (k : ℕ) (order : List ℕ) → slice_get orders k ≡ Some order → IsClocked clock scripts (history_of config scripts order)

-- the invariant of a search
pub record IsSearch (clock : Bool) (config : Configuration) (scripts : Scripts) (current : Search) : Type 0 where
  pub all : length scripts ≡ length config.partitions
  pub orders : AreOrders config current.orders
  pub clocked : AreClocked clock config scripts current.orders
  pub apart : AreApart config scripts current.orders
  pub points : ArePoints config scripts current.orders current.points
  pub levels : AreLevels config scripts current.orders current.points.first current.points.next current.points.calls
  pub found : AreFound clock config scripts current.replies
  pub uses : AreOfScripts config scripts current.uses.items

-- no point of the next level is found yet
abbrev pub HasLevel : Search → Type 0
HasLevel current = current.points.next ≡ length current.orders

-- nothing that was found is lost
pub record IsLater (old new : Search) : Type 0 where
  pub orders : Keeps old.orders new.orders
  pub replies : Includes old.replies new.replies

-- these are enough to try after the history; with the clock, all whose next calls are due
pub record IsEnoughWith (clock : Bool) (config : Configuration) (scripts : Scripts) (h : History) (tried : ℕ → Bool) : Type 0 where
  pub enough : clock ≡ false → IsEnough config scripts h tried
  pub all : clock ≡ true → (p : ℕ) → HasNext scripts h p → IsNextDue clock scripts h p → tried p ≡ true

-- the next call of each of these is due
abbrev pub AreDue : Bool → Scripts → History → (ℕ → Bool) → Type 0
AreDue clock scripts h tried = (p : ℕ) → tried p ≡ true → IsNextDue clock scripts h p

-- after the order the next calls of enough partitions were tried
pub record HasTriedEnough (clock : Bool) (config : Configuration) (scripts : Scripts) (orders : List (List ℕ)) (replies : List PossibleReply) (order : List ℕ) : Type 0 where
  pub tried : ℕ → Bool
  pub enough : IsEnoughWith clock config scripts (history_of config scripts order) tried
  pub each : (p : ℕ) → p < length config.partitions → tried p ≡ true → IsTried config scripts orders replies order p

-- this holds for the order at the index
abbrev pub HasTried : Bool → Configuration → Scripts → List (List ℕ) → List PossibleReply → ℕ → Type 0
HasTried clock config scripts orders replies k =
    (order : List ℕ) → slice_get orders k ≡ Some order → HasTriedEnough clock config scripts orders replies order

-- and for those from one index up to another
abbrev pub HasTriedFrom : Bool → Configuration → Scripts → List (List ℕ) → List PossibleReply → ℕ → ℕ → Type 0
HasTriedFrom clock config scripts orders replies from to =
    (k : ℕ) → from ≤ k → k < to → HasTried clock config scripts orders replies k

-- the search is complete
pub record IsSearched (clock : Bool) (config : Configuration) (scripts : Scripts) (orders : List (List ℕ)) (replies : List PossibleReply) : Type 0 where
  pub all : length scripts ≡ length config.partitions
  pub short : AreShort config scripts
  pub first : Has orders []
  pub valid : AreOrders config orders
  pub clocked : AreClocked clock config scripts orders
  pub found : AreFound clock config scripts replies
  pub tried : (k : ℕ) → k < length orders → HasTried clock config scripts orders replies k

-- the hash of the call that the question is about
abbrev pub asked_hash : Asked → ℕ
asked_hash asked = mix asked.partition asked.index

-- after the order, the asked call is its partition's next one and gets an admitted reply
pub record IsAnsweredAfter (clock : Bool) (config : Configuration) (scripts : Scripts) (asked : Asked) (order : List ℕ) : Type 0 where
  pub one : PossibleReply
  pub answers : Answers asked one
  pub given : IsGivenAfter clock config scripts order one

-- this is the reply that its partition's next call gets after the order; none if there is no such call, or it isn't due
abbrev pub IsNextReply : Bool → Configuration → Scripts → List ℕ → NextReply → Type 0
IsNextReply clock config scripts order next =
    (one : PossibleReply) → (next.reply ≡ Some one) ↔ ((one.partition ≡ next.partition) × IsGivenAfter clock config scripts order one)

-- the reply that this partition's next call gets is looked up
pub record HasNextReply (clock : Bool) (config : Configuration) (scripts : Scripts) (order : List ℕ) (p : ℕ) (known : Option NextReply) : Type 0 where
  pub next : NextReply
  pub here : known ≡ Some next
  pub partition : next.partition ≡ p
  pub reply : IsNextReply clock config scripts order next

-- the asked call isn't answered so after the order at the index
abbrev pub IsUnansweredAt : Bool → Configuration → Scripts → Asked → List (List ℕ) → ℕ → Type 0
IsUnansweredAt clock config scripts asked orders k = (order : List ℕ) → slice_get orders k ≡ Some order → ¬ IsAnsweredAfter clock config scripts asked order

-- each order that was found answers the question at its index
pub record HaveOrders (clock : Bool) (config : Configuration) (scripts : Scripts) (asked : List Asked) (answers : List (Option (List ℕ))) : Type 0 where
  pub count : length answers ≡ length asked
  pub each : (q : ℕ) (one : Asked) (order : List ℕ) → slice_get asked q ≡ Some one → slice_get answers q ≡ Some (Some order) → IsAnsweredByWith clock config scripts one order

-- the question at the index, if it has no order yet, isn't answered after any of the first orders
abbrev pub IsOpen : Bool → Configuration → Scripts → List Asked → List (List ℕ) → ℕ → List (Option (List ℕ)) → ℕ → Type 0
IsOpen clock config scripts asked orders n answers q =
    (one : Asked) → slice_get asked q ≡ Some one → slice_get answers q ≡ Some None → (k : ℕ) → k < n → IsUnansweredAt clock config scripts one orders k

-- this holds for each question about the partition's calls
abbrev pub AreOpenOf : Bool → Configuration → Scripts → List Asked → List (List ℕ) → ℕ → List (Option (List ℕ)) → ℕ → Type 0
AreOpenOf clock config scripts asked orders n answers p =
    (q : ℕ) (one : Asked) → slice_get asked q ≡ Some one → one.partition ≡ p → IsOpen clock config scripts asked orders n answers q

-- the answers that the first orders give
pub record AreAnswersBy (clock : Bool) (config : Configuration) (scripts : Scripts) (asked : List Asked) (orders : List (List ℕ)) (n : ℕ) (answers : List (Option (List ℕ))) : Type 0 where
  pub found : HaveOrders clock config scripts asked answers
  pub unanswered : (q : ℕ) → IsOpen clock config scripts asked orders n answers q

-- there are questions, and each has its order
pub record AreAllAnswered (answers : List (Option (List ℕ))) : Type 0 where
  pub some : 0 < length answers
  pub each : (q : ℕ) → ¬ (slice_get answers q ≡ Some None)

-- the search is complete without an order that answers the question
pub record IsSearchedInVain (clock : Bool) (config : Configuration) (scripts : Scripts) (asked : Asked) (orders : List (List ℕ)) (replies : List PossibleReply) : Type 0 where
  pub searched : IsSearched clock config scripts orders replies
  pub unanswered : (k : ℕ) → k < length orders → IsUnansweredAt clock config scripts asked orders k

-- unless the search was given up, it is complete, or each question has its order
pub record HasEnded (clock : Bool) (config : Configuration) (scripts : Scripts) (asked : List Asked) (found : Found) : Type 0 where
  pub answers : HaveOrders clock config scripts asked found.answers.items
  pub all : found.given_up ≡ None → asked ≡ [] → IsSearched clock config scripts found.orders found.replies.items
  pub unanswered : found.given_up ≡ None → (q : ℕ) (one : Asked) → slice_get asked q ≡ Some one → slice_get found.answers.items q ≡ Some None
      → IsSearchedInVain clock config scripts one found.orders found.replies.items

-- the answer to a question: its order, or none, or why the search was given up
abbrev pub answer_by : Option OrdersFault → Option (List ℕ) → Result (Option (List ℕ)) OrdersFault
answer_by given_up (Some order) = Ok (Some order)
answer_by None None = Ok None
answer_by (Some fault) None = Err fault

-- each partition has made all calls of its script
abbrev pub HasMadeAll : Configuration → Scripts → History → Type 0
HasMadeAll config scripts history =
    (p : ℕ) → p < length config.partitions → length (script_of scripts p) ≤ length (calls_of p history)

-- the order has as many calls of each partition as its script has, or more
abbrev pub NamesAll : Scripts → List ℕ → Type 0
NamesAll scripts order = (p : ℕ) → p < length scripts → length (script_of scripts p) ≤ times p order

-- the ends are those of the orders that make all calls
pub record AreEndsOf (config : Configuration) (scripts : Scripts) (orders ends : List (List ℕ)) : Type 0 where
  pub each : (order : List ℕ) → Has ends order → Has orders order × HasMadeAll config scripts (history_of config scripts order)
  pub every : (order : List ℕ) → Has orders order → HasMadeAll config scripts (history_of config scripts order) → Has ends order

-- more orders than the bound lead to points that all differ
pub record HasMoreOrders (clock : Bool) (config : Configuration) (scripts : Scripts) (bound : ℕ) : Type 0 where
  pub orders : List (List ℕ)
  pub many : bound < length orders
  pub valid : AreOrders config orders
  pub clocked : AreClocked clock config scripts orders
  pub apart : AreApart config scripts orders

-- a search is given up only if there are more points than the bound, or one who can ended it
abbrev pub IsGivenUp : Bool → Type 0 → Configuration → Scripts → ℕ → OrdersFault → Type 0
IsGivenUp clock can_stop config scripts bound TooManyStates = HasMoreOrders clock config scripts bound
IsGivenUp clock can_stop config scripts bound Stopped = can_stop
IsGivenUp clock can_stop config scripts bound OutOfMemory = ⊥
