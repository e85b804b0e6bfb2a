-- The answers of a part, put together to answers for all scripts.
use Rattle.apex_groups.proofs.Common.{◌≡◌, ℕ, Bool, List, length, Option, Some, None, Ok, Err, sym, subst, arith, slice_get, slice_get_within, Configuration, IsConfiguration, Scripts, Asked, Found, AreAnswersOf, AreOfPart, AreOrdersOf, IsMergedAnswer, IsOrderOf}
use Rattle.apex_orders.specs.Outcomes.{IsAnswerTo}
use Rattle.apex_groups.specs.Parts.{HoldsPart, part_of_index}
use Rattle.apex_groups.specs.declared.parts.Parts.{Parts}
use Rattle.apex_groups.proofs.Lists.{item_at}
use Rattle.apex_groups.proofs.PartLemmas.{undecided_apart, undecided_part}
use Rattle.apex_groups.proofs.PartSteps.{answered_here, answered_there}

module _ (clock : Bool) (can_stop : Type 0) (config : Configuration) (inside : ℕ → Bool) (scripts : Scripts) (bound : ℕ) (asked : List Asked) (found : List Found)
    (are : AreAnswersOf clock can_stop config inside scripts bound asked found) where
  -- the question to each answer
  question_at : (j : ℕ) (answer : Found) → slice_get found j ≡ Some answer → (one : Asked) × (slice_get asked j ≡ Some one) × IsAnswerTo clock can_stop config are.part bound one answer
  question_at j answer at =
      let within = slice_get_within found j answer at in
      let count = are.each.count in
      let one = item_at asked j (omega (arith, within, count)) in
      (one.0, one.1, are.each.each j one.0 answer one.1 at)

  pub orders_of_part : AreOrdersOf clock config inside scripts found
  orders_of_part answer has = let one = question_at has.0 answer has.1 in of_answer answer one.0 one.2
    where
      of_answer : (answer : Found) (one : Asked) → IsAnswerTo clock can_stop config are.part bound one answer → IsOrderOf clock config inside scripts answer
      of_answer (Ok (Some order)) one is = record { part = are.part; is = are.is; clocked = is.found.given.clocked }
      of_answer (Ok None) one is = tt
      of_answer (Err fault) one is = tt

  module _ (parts : Parts) (n : ℕ) (own : ℕ → Bool) (holds : HoldsPart config parts n inside own) (valid : IsConfiguration config) (count : length scripts ≡ length config.partitions)
      (of_part : AreOfPart config parts scripts n asked) where
    merged_is : (one : Asked) → part_of_index config parts scripts one.partition one.index ≡ n → (x y : Found) → IsAnswerTo clock can_stop config are.part bound one x → IsMergedAnswer clock config scripts inside x y
        → IsAnswerTo clock can_stop config scripts bound one y
    merged_is one same (Ok (Some order)) (Ok (Some whole)) answer merged = record {
      found = answered_here clock config scripts parts n inside own holds valid count are.part are.is one order whole same answer.found merged.0 merged.1;
      never = tt;
      undecided = tt;
      memory = λ is. absurd (cc);
    }
    merged_is one same (Ok (Some order)) (Ok None) answer merged = absurd merged
    merged_is one same (Ok (Some order)) (Err fault) answer merged = absurd merged
    merged_is one same (Ok None) y answer merged = subst (IsAnswerTo clock can_stop config scripts bound one) (sym merged) (record {
      found = tt;
      never = λ can. answer.never (answered_there clock config scripts parts n inside own holds valid count are.part are.is one same can);
      undecided = tt;
      memory = λ is. absurd (cc);
    })
    merged_is one same (Err fault) y answer merged = subst (IsAnswerTo clock can_stop config scripts bound one) (sym merged.0) (record {
      found = tt;
      never = tt;
      undecided = undecided_apart (Option (List ℕ)) (Option (List ℕ)) clock can_stop config scripts bound fault merged.1
          (undecided_part config inside scripts are.part are.is {X = Option (List ℕ)} clock can_stop bound (Err fault) answer.undecided);
      memory = λ is. answer.memory is;
    })

    pub merged_at : (j : ℕ) (x y : Found) → slice_get found j ≡ Some x → IsMergedAnswer clock config scripts inside x y → (one : Asked) × (slice_get asked j ≡ Some one) × IsAnswerTo clock can_stop config scripts bound one y
    merged_at j x y at merged = let one = question_at j x at in (one.0, one.1, merged_is one.0 (of_part one.0 (j, one.1)) x y one.2 merged)
