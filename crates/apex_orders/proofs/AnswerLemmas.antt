-- The answers that a search finds.
use Rattle.apex_orders.proofs.Common.{◌≡◌, ◌↔◌, ⊎_elim, ◌≢◌, ℕ, ◌+◌, ◌-◌, ◌^◌, ◌<◌, ◌≤◌, Bool, false, List, [], ◌∷◌, length, length-set, MatchOption, Option, Some, None, is_some, refl, sym, ap, ◌∙◌, subst, arith, cases_lt, slice_get, slice_get-set_cases, slice_get_within, Configuration, Scripts, Call, Moment, Entry, History, entry_of, entries_of, entries_for, count_of, script_of, next_entries, history_of, mix, Makes}
use Rattle.std.proofs.Math.Nat.{min-eq_left}
use Rattle.std.specs.Prelude.{IfNone, set}
use Rattle.apex_orders.proofs.Common.{Asked, PossibleReply, HasEnded, HasNothingLeft, HaveOrders, AreAllAnswered, AreAnswersBy, IsAnsweredAfter, IsAnsweredByWith, IsOpen, IsSearched, IsSearchedInVain, IsUnansweredAt, IsUnderWay}
use Rattle.apex_orders.specs.Outcomes.{Answers}
use Rattle.apex_orders.specs.Searching.{IsNextReply}
use Rattle.apex_orders.specs.declared.answer.NextReply.{NextReply}
use Rattle.apex_orders.specs.declared.rounds.Found.{Found}
use Rattle.apex_orders.specs.declared.rounds.Rounds.{Rounds}

pub none_there : {X : Type 0} (o : Option X) → is_some o ≡ false → o ≡ None
none_there None is = refl
none_there (Some x) is = absurd (cc)

-- what holds without an item
pub when_none : {X : Type 0} (o : Option X) (P : Type 0) → o ≡ None → IfNone o P → P
when_none None P none is = is
when_none (Some x) P none is = absurd (cc)

-- an order of the answer is the one that was found
found_by : (o : Option (List ℕ)) (P : Type 0) (R : List ℕ → Type 0) (order : List ℕ) → o ≡ Some order → MatchOption o P R → R order
found_by None P R order is match = absurd (cc)
found_by (Some one) P R order is match = let same : one ≡ order = cc in subst R same match

-- without an order none was found
found_none : (o : Option (List ℕ)) (P : Type 0) (R : List ℕ → Type 0) → o ≡ None → MatchOption o P R → P
found_none None P R is match = match
found_none (Some one) P R is match = absurd (cc)

-- a question is answered after an order by the reply that its partition's next call gets
pub answered_by : (clock : Bool) (config : Configuration) (scripts : Scripts) (asked : Asked) (order : List ℕ) (next : NextReply) → IsNextReply clock config scripts order next → next.partition ≡ asked.partition
    → ((one : PossibleReply) × (next.reply ≡ Some one) × Answers asked one) ↔ IsAnsweredAfter clock config scripts asked order
answered_by clock config scripts asked order next is of = (
  (λ found. record { one = found.0; answers = found.2; given = ((is found.0).0 found.1).1 }),
  (λ answered. (answered.one, (is answered.one).1 (answered.answers.partition ∙ sym of, answered.given), answered.answers)),
)

-- the call that a question is about after an order that answers it
module _ (clock : Bool) (config : Configuration) (scripts : Scripts) (asked : Asked) (order : List ℕ) where
  made_within : (h : History) (p : ℕ) (entry : Entry) → next_entries config scripts h p ≡ entry ∷ [] → length (entries_of p h) < length (script_of scripts p)
  made_within h p entry made = of_next (slice_get (script_of scripts p) (length (entries_of p h))) refl (made)
    where
      of_next : (o : Option (Moment × Call)) → slice_get (script_of scripts p) (length (entries_of p h)) ≡ o → entries_for config h p o ≡ entry ∷ [] → length (entries_of p h) < length (script_of scripts p)
      of_next None at made = absurd (cc)
      of_next (Some timed) at made = slice_get_within (script_of scripts p) (length (entries_of p h)) timed at

  -- it is the next one
  pub answered_is_next : length (script_of scripts asked.partition) ≤ 2 ^ 64 - 1 → IsAnsweredAfter clock config scripts asked order
      → asked.index ≡ count_of (entries_of asked.partition (history_of config scripts order))
  answered_is_next short answered =
      let h = history_of config scripts order in
      let of = answered.answers.partition in
      let makes = subst (λ (p : ℕ). Makes config scripts h p answered.one) of answered.given.makes in
      let within = made_within h asked.partition (entry_of asked.partition makes.at makes.call answered.one.reply) makes.entry in
      let index : asked.index ≡ length (entries_of asked.partition h) = sym answered.answers.index ∙ makes.index in
      index ∙ sym (min-eq_left (omega (arith, within, short)))

  -- another one isn't answered
  pub other_is_unanswered : length (script_of scripts asked.partition) ≤ 2 ^ 64 - 1 → (mix asked.partition asked.index ≡ mix asked.partition (count_of (entries_of asked.partition (history_of config scripts order))) → ⊥)
      → IsAnsweredAfter clock config scripts asked order → ⊥
  other_is_unanswered short other answered = other (ap (λ (n : ℕ). mix asked.partition n) (answered_is_next short answered))

module _ (clock : Bool) (config : Configuration) (scripts : Scripts) (asked : List Asked) where
  module _ (orders : List (List ℕ)) (i : ℕ) (answers : List (Option (List ℕ))) (are : AreAnswersBy clock config scripts asked orders i answers) (q : ℕ) (one : Asked) (at : slice_get asked q ≡ Some one) (none : slice_get answers q ≡ Some None) (answer : Option (List ℕ)) (found : MatchOption answer (IsUnansweredAt clock config scripts one orders i) (IsAnsweredByWith clock config scripts one)) where
    same_one : (two : Asked) → slice_get asked q ≡ Some two → one ≡ two
    same_one two there = let both : Some one ≡ Some two = sym at ∙ there in cc

    same_question : (r : ℕ) (two : Asked) → r ≡ q → slice_get asked r ≡ Some two → one ≡ two
    same_question r two here there = same_one two (ap (λ (n : ℕ). slice_get asked n) (sym here) ∙ there)

    -- with the answer to one more question
    pub answers_set : AreAnswersBy clock config scripts asked orders i (set answers q answer)
    answers_set = record {
      found = record {
        count = length-set answers q answer ∙ are.found.count;
        each = λ r two order there given.
            ⊎_elim
            (λ (own : (r ≡ q) × (Some order ≡ answer)).
            subst (λ (a : Asked). IsAnsweredByWith clock config scripts a order) (same_question r two own.0 there)
            (found_by answer (IsUnansweredAt clock config scripts one orders i) (IsAnsweredByWith clock config scripts one) order (sym own.1) found))
            (λ (other : (r ≢ q) × (slice_get answers r ≡ Some (Some order))). are.found.each r two order there other.1)
            (slice_get-set_cases answers q answer r (Some order) given);
      };
      unanswered = λ r two there left k below.
          ⊎_elim
          (λ (own : (r ≡ q) × (None ≡ answer)).
          subst (λ (a : Asked). IsUnansweredAt clock config scripts a orders k) (same_question r two own.0 there) (are.unanswered q one at none k below))
          (λ (other : (r ≢ q) × (slice_get answers r ≡ Some None)). are.unanswered r two there other.1 k below)
          (slice_get-set_cases answers q answer r None left);
    }

    -- which looked at one more order
    pub open_set : IsOpen clock config scripts asked orders (i + 1) (set answers q answer) q
    open_set two there left k below =
        ⊎_elim
        (λ (own : (q ≡ q) × (None ≡ answer)).
        subst (λ (a : Asked). IsUnansweredAt clock config scripts a orders k) (same_one two there)
        (⊎_elim
        (λ (before : k < i). are.unanswered q one at none k before)
        (λ (past : i ≤ k).
        let index : i ≡ k = omega (arith, past, below) in
        let missed = found_none answer (IsUnansweredAt clock config scripts one orders i) (IsAnsweredByWith clock config scripts one) (sym own.1) found in
        subst (IsUnansweredAt clock config scripts one orders) index missed)
        (cases_lt k i)))
        (λ (other : (q ≢ q) × (slice_get answers q ≡ Some None)). absurd (other.0 refl))
        (slice_get-set_cases answers q answer q None left)

    -- as all did that did before
    pub still_open : (r : ℕ) → IsOpen clock config scripts asked orders (i + 1) answers r → IsOpen clock config scripts asked orders (i + 1) (set answers q answer) r
    still_open r was two there left k below =
        ⊎_elim
        (λ (own : (r ≡ q) × (None ≡ answer)).
        open_set two (ap (λ (n : ℕ). slice_get asked n) (sym own.0) ∙ there) (ap (λ (n : ℕ). slice_get (set answers q answer) n) (sym own.0) ∙ left) k below)
        (λ (other : (r ≢ q) × (slice_get answers r ≡ Some None)). was two there other.1 k below)
        (slice_get-set_cases answers q answer r None left)

  -- a question that one more order doesn't answer
  module _ (orders : List (List ℕ)) (i : ℕ) (answers : List (Option (List ℕ))) (are : AreAnswersBy clock config scripts asked orders i answers) where
    pub one_more_open : (q : ℕ) (one : Asked) → slice_get asked q ≡ Some one → IsUnansweredAt clock config scripts one orders i → IsOpen clock config scripts asked orders (i + 1) answers q
    one_more_open q one at missed two there left k below =
        ⊎_elim
        (λ (before : k < i). are.unanswered q two there left k before)
        (λ (past : i ≤ k).
        let index : i ≡ k = omega (arith, past, below) in
        let both : Some one ≡ Some two = sym at ∙ there in
        let same : one ≡ two = cc in
        subst (λ (pair : Asked × ℕ). IsUnansweredAt clock config scripts pair.0 orders pair.1) (λ j. (same j, index j)) missed)
        (cases_lt k i)

  -- ---- the end of a search

  searched : (rounds : Rounds) → IsUnderWay clock config scripts asked rounds → length rounds.current.orders ≤ rounds.first
      → IsSearched clock config scripts rounds.current.orders rounds.current.replies
  searched rounds was done = record {
    all = was.valid.all;
    short = λ p within. let all = was.valid.all in was.valid.uses.short p (omega (arith, all, within));
    first = was.first;
    valid = was.valid.orders;
    clocked = was.valid.clocked;
    found = was.valid.found;
    tried = λ k below. was.tried k (omega (arith, below, done));
  }

  -- a search is over that is complete or has all answers
  pub ended : (rounds : Rounds) → IsUnderWay clock config scripts asked rounds → (found : Found) → (found.given_up ≡ None → HasNothingLeft rounds)
      → found.orders ≡ rounds.current.orders → found.replies.items ≡ rounds.current.replies → found.answers ≡ rounds.answers → HasEnded clock config scripts asked found
  ended rounds was found over orders replies answers =
      let kept = ap (λ (all : _). all.items) answers in
      record {
        answers = subst (HaveOrders clock config scripts asked) (sym kept) was.answers.found;
        all = λ whole none.
            ⊎_elim
            (λ (done : length rounds.current.orders ≤ rounds.first).
            subst (λ (x : List (List ℕ) × List PossibleReply). IsSearched clock config scripts x.0 x.1) (λ i. (sym orders i, sym replies i)) (searched rounds was done))
            (λ (every : AreAllAnswered rounds.answers.items).
            let some = every.some in
            let count = was.answers.found.count in
            let no = ap (λ (all : List Asked). length all) none in
            absurd (omega (arith, some, count, no)))
            (over whole);
        unanswered = λ whole q one at left.
            ⊎_elim
            (λ (done : length rounds.current.orders ≤ rounds.first).
            subst (λ (x : List (List ℕ) × List PossibleReply). IsSearchedInVain clock config scripts one x.0 x.1) (λ i. (sym orders i, sym replies i)) (record {
              searched = searched rounds was done;
              unanswered = λ k below. was.answers.unanswered q one at (subst (λ (all : List (Option (List ℕ))). slice_get all q ≡ Some None) kept left) k (let begun = was.begun in omega (arith, below, done, begun));
            }))
            (λ (every : AreAllAnswered rounds.answers.items). absurd (every.each q (subst (λ (all : List (Option (List ℕ))). slice_get all q ≡ Some None) kept left)))
            (over whole);
      }
