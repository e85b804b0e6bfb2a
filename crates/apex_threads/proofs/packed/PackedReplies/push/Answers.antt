use Rattle.apex_threads.proofs.Common.{◌≡◌, ◌++◌, ◌∷◌, [], ℕ, List, length, ap, sym, subst, ◌∙◌, map, Result, Ok, Err, OnErr, Reply}
use Rattle.apex_threads.specs.declared.packed.Packed.{Packed}
use Rattle.apex_threads.specs.PackedReplies.{reply_in, ArePacked}
use Rattle.apex_threads.proofs.PackedLemmas.{same_replies, still_packed, pushed, one_more_packed}
use Rattle.apex_threads.proofs.packed.PackedReplies.push.Goals as goal

-- what holds after messages were added, but no reply
module _ (messages new more : List (List ℕ)) (all same : List Packed) (grown : new ≡ messages ++ more) (kept : same ≡ all) (are : ArePacked (length messages) all) where
  still : ArePacked (length new) same
  still = subst (λ (b : List (List ℕ)). ArePacked (length b) same) (sym grown) (subst (ArePacked (length (messages ++ more))) (sym kept) (still_packed messages more all are))

  unchanged : map (reply_in new) same ≡ map (reply_in messages) all
  unchanged = (λ i. map (reply_in (grown i)) (kept i)) ∙ same_replies messages more all are

pub invariant_of-self-in_err-packed : goal.invariant_of-self-in_err-packed
invariant_of-self-in_err-packed g c =
    still c.self.inside.messages c.pack.new.messages c.pack.ensures.behind.0 c.self.inside.replies.items c.reserve.new.self.items c.pack.ensures.behind.1 c.reserve.ensures.items c.self.invariant

on_err : {T E : Type 0} (r : Result T E) (P : Type 0) → P → OnErr r P
on_err (Ok x) P holds = tt
on_err (Err e) P holds = holds

pub returns-in_err-packed-clause-refused : goal.returns-in_err-packed-clause-refused
returns-in_err-packed-clause-refused g c =
    on_err c.from_residual-in_err-packed.result _
    (unchanged c.self.inside.messages c.pack.new.messages c.pack.ensures.behind.0 c.self.inside.replies.items c.reserve.new.self.items c.pack.ensures.behind.1 c.reserve.ensures.items c.self.invariant ∙ c.self.view_is)

pub invariant_of-self-2 : goal.invariant_of-self-2
invariant_of-self-2 g c =
    let messages = c.pack.new.messages in
    let front = still c.self.inside.messages messages c.pack.ensures.behind.0 c.self.inside.replies.items c.reserve.new.self.items c.pack.ensures.behind.1 c.reserve.ensures.items c.self.invariant in
    subst (ArePacked (length messages)) (sym c.push_reserved.ensures.items) (one_more_packed (length messages) c.reserve.new.self.items c.in_ok-packed.packed front c.in_ok-packed.ensures.within)

pub returns-clause-pushed : goal.returns-clause-pushed
returns-clause-pushed g c =
    let messages = c.self.inside.messages in
    let more = c.pack.ensures.behind.0 in
    let grown = c.pack.ensures.behind.1 in
    let all = c.self.inside.replies.items in
    let packed = c.in_ok-packed.packed in
    let is : reply_in (messages ++ more) packed ≡ c.args.reply.now = subst (λ (b : List (List ℕ)). reply_in b packed ≡ c.args.reply.now) grown c.in_ok-packed.ensures.packed in
    let items : c.push_reserved.new.self.items ≡ all ++ packed ∷ [] = c.push_reserved.ensures.items ∙ ap (λ (front : List Packed). front ++ packed ∷ []) c.reserve.ensures.items in
    (λ i. map (reply_in (grown i)) (items i)) ∙ (pushed messages more all packed c.args.reply.now c.self.invariant is ∙ ap (λ (front : List Reply). front ++ c.args.reply.now ∷ []) c.self.view_is)
