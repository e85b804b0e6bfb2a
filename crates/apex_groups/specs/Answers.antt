-- Answers to several questions about calls, found part by part.
use Rattle.std.specs.Prelude.{ℕ, Bool, false, ◌≡◌, ◌⊎◌, List, length, slice_get, Option, Some, None, Result, Ok, Err, IfOk, IfSome}
use Rattle.apex_groups.specs.Prelude.{Configuration, Scripts, Asked, Has, IsGivenByWith, IsOrder, IsUndecidedWith, PossibleReply}
use Rattle.apex_groups.specs.Groups.{IsPart}
use Rattle.apex_groups.specs.Merging.{IsMerged, IsOfPart}
use Rattle.apex_groups.specs.Parts.{part_of_index}
use Rattle.apex_groups.specs.declared.parts.Parts.{Parts}
use Rattle.apex_groups.specs.declared.questions.Picked.{Picked}
use Rattle.apex_orders.specs.Outcomes.{AreAnswersTo, IsAnswerTo}
use Rattle.apex_orders.specs.declared.asked.Admitted.TheVariants as admitted
use Rattle.apex_orders.specs.declared.orders_fault.OrdersFault.{OrdersFault}
use Rattle.apex_orders.specs.declared.orders_fault.OrdersFault.TheVariants.{OutOfMemory, TooManyStates}

-- an order, that there is none, or why that is unknown
abbrev pub Found : Type 0
Found = Result (Option (List ℕ)) OrdersFault

-- ---- some of the questions

-- the questions at the indexes
pub record ArePicked (asked : List Asked) (picked : Picked) : Type 0 where
  pub count : length picked.asked.items ≡ length picked.indexes.items
  pub each : (j k : ℕ) → slice_get picked.indexes.items j ≡ Some k
      → (one : Asked) × (slice_get asked k ≡ Some one) × (slice_get picked.asked.items j ≡ Some one)

-- all are about calls of the part
abbrev pub AreOfPart : Configuration → Parts → Scripts → ℕ → List Asked → Type 0
AreOfPart config parts scripts part asked =
    (one : Asked) → Has asked one → part_of_index config parts scripts one.partition one.index ≡ part

-- ---- answers at their indexes

-- the answer fits the item for the index
pub record IsPut {X Y : Type 0} (Fits : X → Y → Type 0) (indexes : List ℕ) (items : List X) (k : ℕ) (answer : Y) : Type 0 where
  pub j : ℕ
  pub item : X
  pub index : slice_get indexes j ≡ Some k
  pub at : slice_get items j ≡ Some item
  pub fits : Fits item answer

-- each answer was there, or fits the item for its index
pub record ArePut {X Y : Type 0} (Fits : X → Y → Type 0) (indexes : List ℕ) (items : List X) (old new : List (Option Y)) : Type 0 where
  pub count : length new ≡ length old
  pub each : (k : ℕ) (answer : Y) → slice_get new k ≡ Some (Some answer)
      → (slice_get old k ≡ Some (Some answer)) ⊎ IsPut Fits indexes items k answer

-- the answers that are known say what they have to
abbrev pub AreKnown : Bool → Type 0 → Configuration → Scripts → ℕ → List Asked → List (Option Found) → Type 0
AreKnown clock can_stop config scripts bound asked answers =
    (k : ℕ) (one : Asked) (answer : Found) → slice_get asked k ≡ Some one → slice_get answers k ≡ Some (Some answer)
    → IsAnswerTo clock can_stop config scripts bound one answer

-- ---- one part

-- what the answers say about the scripts of the partitions inside
pub record AreAnswersOf (clock : Bool) (can_stop : Type 0) (config : Configuration) (inside : ℕ → Bool) (scripts : Scripts) (bound : ℕ) (asked : List Asked) (answers : List Found) : Type 0 where
  pub part : Scripts
  pub is : IsPart inside scripts part
  pub each : AreAnswersTo clock can_stop config part bound asked answers

-- an order that was found is one of the part
abbrev pub IsOrderOf : Bool → Configuration → (ℕ → Bool) → Scripts → Found → Type 0
IsOrderOf clock config inside scripts found = IfOk found (λ answer. IfSome answer (IsOfPart clock config inside scripts))

-- so is each
abbrev pub AreOrdersOf : Bool → Configuration → (ℕ → Bool) → Scripts → List Found → Type 0
AreOrdersOf clock config inside scripts found = (one : Found) → Has found one → IsOrderOf clock config inside scripts one

-- the answer of the part, with the calls of the others in its order; with the clock, no part has too many points
abbrev pub IsMergedAnswer : Bool → Configuration → Scripts → (ℕ → Bool) → Found → Found → Type 0
IsMergedAnswer clock config scripts inside (Ok (Some order)) (Ok (Some whole)) =
    IsMerged clock config scripts inside order whole × IsOrder config whole
IsMergedAnswer clock config scripts inside (Ok (Some order)) _ = ⊥
IsMergedAnswer clock config scripts inside (Ok None) answer = answer ≡ Ok None
IsMergedAnswer clock config scripts inside (Err fault) answer = (answer ≡ Err fault) × (fault ≡ TooManyStates → clock ≡ false)

-- ---- replies

-- the question whether the call gets this reply
abbrev pub question_about : PossibleReply → Asked
question_about one = record { partition = one.partition; index = one.index; admitted = admitted.Reply one.reply }

-- the answer with this order, or why it is unknown
abbrev pub answer_with : Result (List ℕ) OrdersFault → Found
answer_with (Ok order) = Ok (Some order)
answer_with (Err fault) = Err fault

-- an order that ends with the reply, or why none is known, other than memory
pub record IsReplyOrder (clock : Bool) (can_stop : Type 0) (config : Configuration) (scripts : Scripts) (bound : ℕ) (one : PossibleReply) (order : Result (List ℕ) OrdersFault) : Type 0 where
  pub given : IfOk order (IsGivenByWith clock config scripts one)
  pub undecided : IsUndecidedWith clock can_stop config scripts bound order
  pub memory : ¬ (order ≡ Err OutOfMemory)

-- this for each of the replies, at its index
pub record AreReplyOrders (clock : Bool) (can_stop : Type 0) (config : Configuration) (scripts : Scripts) (bound : ℕ) (replies : List PossibleReply) (orders : List (Result (List ℕ) OrdersFault)) : Type 0 where
  pub count : length orders ≡ length replies
  pub each : (k : ℕ) (one : PossibleReply) (order : Result (List ℕ) OrdersFault) → slice_get replies k ≡ Some one → slice_get orders k ≡ Some order
      → IsReplyOrder clock can_stop config scripts bound one order
