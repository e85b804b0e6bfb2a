-- Ends that are asked for.
use Rattle.apex_groups.proofs.Common.{◌≡◌, ℕ, Bool, List, Option, Some, None, subst, Configuration, History, Scripts, history_of, HasSameTotals, ShowAllCounts}
use Rattle.apex_groups.specs.Ends.{AreEndAnswers, Compares, FindEnds, FindsEnd, IsEndAnswer, IsSuchEnd, count_after}
use Rattle.apex_groups.specs.declared.asked_end.AskedEnd.{AskedEnd}
use Rattle.apex_groups.specs.declared.asked_end.Count.{Count}
use Rattle.apex_groups.specs.declared.asked_end.Count.TheVariants as count

same_count : (config : Configuration) (history other : History) (c : ℕ) (one : Count) → HasSameTotals config history other c
    → count_after config history c one ≡ count_after config other c one
same_count config history other c count.Accepted same = same.counts.accepted
same_count config history other c count.Received same = same.counts.received
same_count config history other c count.Cleared same = same.counts.cleared
same_count config history other c count.Waiting same = same.waiting

-- two histories with the same counts of the channel have such an end, or neither has
such_too : (config : Configuration) (asked : AskedEnd) (history other : History) → HasSameTotals config history other asked.channel
    → IsSuchEnd config asked history → IsSuchEnd config asked other
such_too config asked history other same such =
    subst (λ (n : ℕ). Compares asked.comparison n asked.number) (same_count config history other asked.channel asked.count same) such

pub is_end_answer : (clock : Bool) (config : Configuration) (scripts : Scripts) (ends : List (List ℕ)) → ShowAllCounts clock config scripts ends
    → (asked : AskedEnd) (answer : Option (List ℕ)) → FindsEnd config scripts ends asked answer → IsEndAnswer clock config scripts asked answer
is_end_answer clock config scripts ends show asked (Some order) finds = record {
  found = record { is_way = show.ways order finds.0; clocked = show.clocked order finds.0; such = finds.1 };
  never = tt;
}
is_end_answer clock config scripts ends show asked None finds = record {
  found = tt;
  never = λ has.
      let shown = show.counts has.way has.is_way has.clocked asked.channel has.channel in
      finds has.channel shown.order shown.here (such_too config asked has.way (history_of config scripts shown.order) shown.same has.such);
}

-- the same of all answers, and of the values that a search hands on
pub are_end_answers : (clock : Bool) (config : Configuration) (scripts : Scripts) (ends listed : List (List ℕ)) (asked : List AskedEnd) (answers : List (Option (List ℕ)))
    → listed ≡ ends → ShowAllCounts clock config scripts ends → FindEnds config scripts listed asked answers → AreEndAnswers clock config scripts asked answers
are_end_answers clock config scripts ends listed asked answers lists show find = record {
  count = find.count;
  each = λ k one answer at here.
      is_end_answer clock config scripts ends show one answer (subst (λ (orders : List (List ℕ)). FindsEnd config scripts orders one answer) lists (find.each k one answer at here));
}
