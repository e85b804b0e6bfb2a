-- An order in which a call gets a reply.
use Rattle.apex_orders.proofs.Common.{◌≡◌, ℕ, Bool, List, [], ◌∷◌, ◌++◌, Option, Some, None, IfSome, refl, sym, ap, ◌∙◌, subst, slice_get, slice_get_within, Configuration, IsConfiguration, History, entry_of, Asked, PossibleReply, IsClocked, Scripts, IsOrder, IsBeginning, next_entries, history_of, CanBeAnsweredWith, IsAnsweredByWith, IsGivenByWith, IsAnswerTo, HasEnded, IsAnsweredAfter, IsGivenAfter, IsGivenUp, IsSearchedInVain, answer_by}
use Rattle.apex_orders.proofs.ClockLemmas.{clocked_next}
use Rattle.apex_orders.specs.declared.orders_fault.OrdersFault.{OrdersFault}
use Rattle.apex_orders.specs.declared.orders_fault.OrdersFault.TheVariants.{OutOfMemory}
use Rattle.apex_orders.specs.declared.rounds.Found.{Found}
use Rattle.apex_orders.proofs.EndLemmas.{not_of_memory, undecided_of}
use Rattle.apex_orders.proofs.Walks.{good_next, is_beginning}
use Rattle.apex_orders.proofs.Completing.{IsAnswered, given_of_occurs, good_history, made_is_answered}
use Rattle.apex_orders.proofs.SearchLemmas.{behind, longer_is_order}

module _ (clock : Bool) (config : Configuration) (scripts : Scripts) where
  -- followed by the call, the order gives the reply
  pub longer_gives : IsConfiguration config → (order : List ℕ) (one : PossibleReply) → IsOrder config order → IsClocked clock scripts (history_of config scripts order) → IsGivenAfter clock config scripts order one
      → IsGivenByWith clock config scripts one (order ++ one.partition ∷ [])
  longer_gives valid order one is clocked given =
      let p = one.partition in
      let h = history_of config scripts order in
      let makes = given.makes in
      let ahead : history_of config scripts (order ++ p ∷ []) ≡ h ++ next_entries config scripts h p = behind config scripts order p in
      let good = good_next config scripts h p given.within (good_history config scripts valid order is) in
      record {
        valid = longer_is_order config scripts order p is given.within;
        begins = subst (IsBeginning config scripts) (sym ahead) (is_beginning config scripts (h ++ next_entries config scripts h p) good);
        clocked = subst (IsClocked clock scripts) (sym ahead) (clocked_next clock scripts config h p clocked given.due);
        reply = subst (λ (g : History). IsAnswered g one) (sym ahead) (made_is_answered config scripts valid h p one makes);
        last = record {
          before = h;
          entry = entry_of p makes.at makes.call one.reply;
          whole = ahead ∙ ap (λ (es : History). h ++ es) makes.entry;
          partition = refl;
          index = makes.index;
          reply = refl;
        };
      }

  -- ---- questions

  pub longer_answers : IsConfiguration config → (asked : Asked) (order : List ℕ) → IsOrder config order → IsClocked clock scripts (history_of config scripts order) → IsAnsweredAfter clock config scripts asked order
      → IsAnsweredByWith clock config scripts asked (order ++ asked.partition ∷ [])
  longer_answers valid asked order is clocked answered = record {
    one = answered.one;
    answers = answered.answers;
    given = subst (λ (p : ℕ). IsGivenByWith clock config scripts answered.one (order ++ p ∷ [])) answered.answers.partition (longer_gives valid order answered.one is clocked answered.given);
  }

  -- what none of a complete search's orders answers, no way answers
  pub never_answered : IsConfiguration config → (asked : Asked) (orders : List (List ℕ)) (replies : List PossibleReply)
      → IsSearchedInVain clock config scripts asked orders replies → CanBeAnsweredWith clock config scripts asked → ⊥
  never_answered valid asked orders replies ended can =
      let by = given_of_occurs config scripts valid clock orders replies ended.searched can.one can.occurs in
      ended.unanswered by.here.0 (slice_get_within orders by.here.0 by.order by.here.1) by.order by.here.1
      (record { one = can.one; answers = can.answers; given = by.given })

  -- ---- answers

  answer_from : IsConfiguration config → (can_stop : Type 0) (bound : ℕ) (asked : Asked) (given_up : Option OrdersFault) (order : Option (List ℕ)) → IfSome given_up (IsGivenUp clock can_stop config scripts bound)
      → ((one : List ℕ) → order ≡ Some one → IsAnsweredByWith clock config scripts asked one) → (given_up ≡ None → order ≡ None → CanBeAnsweredWith clock config scripts asked → ⊥)
      → IsAnswerTo clock can_stop config scripts bound asked (answer_by given_up order)
  answer_from valid can_stop bound asked given_up (Some one) why answers never = record { found = answers one refl; never = tt; undecided = tt; memory = λ is. absurd (cc) }
  answer_from valid can_stop bound asked None None why answers never = record { found = tt; never = never refl refl; undecided = tt; memory = λ is. absurd (cc) }
  answer_from valid can_stop bound asked (Some fault) None why answers never =
      record {
        found = tt;
        never = tt;
        undecided = undecided_of (Option (List ℕ)) clock can_stop config scripts valid bound fault why;
        memory = λ is. not_of_memory clock can_stop config scripts bound fault why (let same : fault ≡ OutOfMemory = cc in same);
      }

  -- what a search ended with answers each question
  pub is_answer : IsConfiguration config → (can_stop : Type 0) (bound : ℕ) (asked : List Asked) (found : Found) → HasEnded clock config scripts asked found
      → IfSome found.given_up (IsGivenUp clock can_stop config scripts bound) → (q : ℕ) (one : Asked) (order : Option (List ℕ)) → slice_get asked q ≡ Some one → slice_get found.answers.items q ≡ Some order
      → IsAnswerTo clock can_stop config scripts bound one (answer_by found.given_up order)
  is_answer valid can_stop bound asked found ended why q one order at here =
      answer_from valid can_stop bound one found.given_up order why
      (λ given is. ended.answers.each q one given at (here ∙ ap Some is))
      (λ whole none. never_answered valid one found.orders found.replies.items (ended.unanswered whole q one at (here ∙ ap Some none)))
