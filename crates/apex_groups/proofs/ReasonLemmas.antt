-- Replies that orders show, and why a call gets some in some orders and not in others.
use Rattle.apex_groups.proofs.Common.{◌≡◌, ℕ, Bool, List, ◌++◌, Option, Some, None, ap, ◌∙◌, subst, Configuration, IsConfiguration, History, Asked, PossibleReply, Scripts, IsOrder, slice_get, next_entries, history_of, IfSome}
use Rattle.apex_types.specs.declared.reply.Reply.{Reply}
use Rattle.apex_orders.specs.Clock.{IsClocked}
use Rattle.apex_orders.specs.Steps.{Makes}
use Rattle.apex_orders.proofs.Completing.{IsAnswered, good_history, made_is_answered}
use Rattle.apex_orders.proofs.Lists.{stays_before}
use Rattle.apex_orders.proofs.Walks.{is_beginning, replies_of-append}
use Rattle.apex_groups.specs.Prelude.{replies_of}
use Rattle.apex_groups.specs.Deciding.{HasReply, ShowsReply}

-- ---- one step

module _ (asked : Asked) where
  -- a reply that is known stays known
  pub has_more : (h more : History) (found : Option Reply) → HasReply asked h found → HasReply asked (h ++ more) found
  has_more h more None is = tt
  has_more h more (Some reply) is =
      ap (λ (replies : List Reply). slice_get replies asked.index) (replies_of-append asked.partition h more)
      ∙ stays_before (replies_of asked.partition h) (replies_of asked.partition more) asked.index reply is

  -- the reply of the asked call
  pub has_made : (config : Configuration) (scripts : Scripts) → IsConfiguration config → (h : History) (p : ℕ) (one : PossibleReply) → Makes config scripts h p one
      → one.partition ≡ asked.partition → one.index ≡ asked.index → HasReply asked (h ++ next_entries config scripts h p) (Some one.reply)
  has_made config scripts valid h p one makes partition index =
      let whole : one ≡ record { partition = asked.partition; index = asked.index; reply = one.reply } = λ i. record { partition = partition i; index = index i; reply = one.reply } in
      subst (λ (other : PossibleReply). IsAnswered (h ++ next_entries config scripts h p) other) whole (made_is_answered config scripts valid h p one makes)

-- ---- a whole order

pub shows : (clock : Bool) (config : Configuration) (scripts : Scripts) (asked : Asked) (order : List ℕ) (h : History) (found : Option Reply) → IsConfiguration config → IsOrder config order
    → h ≡ history_of config scripts order → IsClocked clock scripts h → HasReply asked h found → IfSome found (λ reply. ShowsReply clock config scripts asked reply order)
shows clock config scripts asked order h None valid is same clocked has = tt
shows clock config scripts asked order h (Some reply) valid is same clocked has = record {
  valid = is;
  begins = is_beginning config scripts (history_of config scripts order) (good_history config scripts valid order is);
  clocked = subst (IsClocked clock scripts) same clocked;
  reply = subst (λ (g : History). HasReply asked g (Some reply)) same has;
}
