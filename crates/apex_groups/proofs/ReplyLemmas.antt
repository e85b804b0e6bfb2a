-- Questions about replies.
use Rattle.std.proofs.lemmas.List.{length-map}
use Rattle.apex_groups.proofs.Common.{◌≡◌, ℕ, Bool, List, Err, None, Ok, Option, Result, Some, length, map, refl, sym, ap, ◌∙◌, subst, arith, slice_get, slice_get_within, Configuration, Found, Has, PossibleReply, Scripts, CanBeAnsweredWith, CanOccurWith, IsAnsweredByWith, IsGivenByWith, IsUndecidedWith}
use Rattle.apex_groups.proofs.Lists.{item_at, mapped_at}
use Rattle.apex_groups.specs.Answers.{AreReplyOrders, IsReplyOrder, question_about, answer_with}
use Rattle.apex_orders.specs.Outcomes.{AreAnswersTo, IsAnswerTo}
use Rattle.apex_orders.specs.declared.orders_fault.OrdersFault.{OrdersFault}
use Rattle.apex_orders.specs.declared.orders_fault.OrdersFault.TheVariants.{TooManyStates, OutOfMemory, Stopped}

undecided_alike : (X Y can_stop : Type 0) (clock : Bool) (config : Configuration) (scripts : Scripts) (bound : ℕ) (fault : OrdersFault)
    → IsUndecidedWith {X = X} clock can_stop config scripts bound (Err fault) → IsUndecidedWith {X = Y} clock can_stop config scripts bound (Err fault)
undecided_alike X Y can_stop clock config scripts bound TooManyStates given = given
undecided_alike X Y can_stop clock config scripts bound OutOfMemory given = tt
undecided_alike X Y can_stop clock config scripts bound Stopped given = given

module _ (clock : Bool) (config : Configuration) (scripts : Scripts) (one : PossibleReply) where
  given_of_answered : (order : List ℕ) → IsAnsweredByWith clock config scripts (question_about one) order → IsGivenByWith clock config scripts one order
  given_of_answered order answered =
      let is = answered.answers in
      let whole : answered.one ≡ one = λ i. record { partition = is.partition i; index = is.index i; reply = is.reply i } in
      subst (λ (given : PossibleReply). IsGivenByWith clock config scripts given order) whole answered.given

  pub can_be_answered : CanOccurWith clock config scripts one → CanBeAnsweredWith clock config scripts (question_about one)
  can_be_answered occurs = record { one = one; answers = record { partition = refl; index = refl; reply = refl }; occurs = occurs }

  -- the answer to the question has the order, or says why it is unknown
  pub reply_order : (can_stop : Type 0) (bound : ℕ) (order : Result (List ℕ) OrdersFault) → IsAnswerTo clock can_stop config scripts bound (question_about one) (answer_with order)
      → IsReplyOrder clock can_stop config scripts bound one order
  reply_order can_stop bound (Ok order) answer = record { given = given_of_answered order answer.found; undecided = tt; memory = λ is. absurd (cc) }
  reply_order can_stop bound (Err fault) answer = record {
    given = tt;
    undecided = undecided_alike (Option (List ℕ)) (List ℕ) can_stop clock config scripts bound fault answer.undecided;
    memory = λ is. answer.memory (let same : fault ≡ OutOfMemory = cc in ap Err same);
  }

-- the answers to the questions about some replies
module _ (clock : Bool) (can_stop : Type 0) (config : Configuration) (scripts : Scripts) (bound : ℕ) (replies : List PossibleReply) (answers : List Found)
    (are : AreAnswersTo clock can_stop config scripts bound (map question_about replies) answers) where
  answer_at : (k : ℕ) (one : PossibleReply) (answer : Found) → slice_get replies k ≡ Some one → slice_get answers k ≡ Some answer → IsAnswerTo clock can_stop config scripts bound (question_about one) answer
  answer_at k one answer at here = are.each k (question_about one) answer (mapped_at question_about replies k one at) here

  pub none_missing : ((one : PossibleReply) → Has replies one → CanOccurWith clock config scripts one) → (k : ℕ) → ¬ (slice_get answers k ≡ Some (Ok None))
  none_missing possible k none =
      let inside = slice_get_within answers k (Ok None) none in
      let count = are.count in
      let one = item_at replies k (omega (arith, inside, count, length-map replies question_about)) in
      (answer_at k one.0 (Ok None) one.1 none).never (can_be_answered clock config scripts one.0 (possible one.0 (k, one.1)))

  pub orders_are : (orders : List (Result (List ℕ) OrdersFault)) → map answer_with orders ≡ answers → AreReplyOrders clock can_stop config scripts bound replies orders
  orders_are orders same = record {
    count =
        let many = ap (λ (items : List Found). length items) same in
        let count = are.count in
        omega (arith, many, count, length-map orders answer_with, length-map replies question_about);
    each = λ k one order at here.
        reply_order clock config scripts one can_stop bound order
        (answer_at k one (answer_with order) at (sym (ap (λ (items : List Found). slice_get items k) same) ∙ mapped_at answer_with orders k order here));
  }
