use Rattle.apex_threads.proofs.Common.{◌≡◌, ◌++◌, ◌∷◌, [], ℕ, List, length, ap, sym, subst, ◌∙◌, map, Result, Ok, Err, OnErr, Call, Moment}
use Rattle.apex_threads.specs.declared.packed_script.PackedCall.{PackedCall}
use Rattle.apex_threads.specs.PackedCalls.{call_in, timed_in, ArePackedCalls}
use Rattle.apex_threads.proofs.CallLemmas.{same_calls, still_packed_calls, pushed_call, one_more_packed_call}
use Rattle.apex_threads.proofs.packed_script.PackedScript.push.Goals as goal

-- what holds after messages and names were added, but no call
module _ (messages new more : List (List ℕ)) (names now others : List (List ℕ)) (all same : List (Moment × PackedCall)) (grown : new ≡ messages ++ more) (longer : now ≡ names ++ others) (kept : same ≡ all) (are : ArePackedCalls (length messages) (length names) all) where
  still : ArePackedCalls (length new) (length now) same
  still =
      subst (λ (b : List (List ℕ)). ArePackedCalls (length b) (length now) same) (sym grown)
      (subst (λ (n : List (List ℕ)). ArePackedCalls (length (messages ++ more)) (length n) same) (sym longer)
      (subst (ArePackedCalls (length (messages ++ more)) (length (names ++ others))) (sym kept) (still_packed_calls messages more names others all are)))

  unchanged : map (timed_in new now) same ≡ map (timed_in messages names) all
  unchanged = (λ i. map (timed_in (grown i) (longer i)) (kept i)) ∙ same_calls messages more names others all are

pub invariant_of-self-in_err-packed : goal.invariant_of-self-in_err-packed
invariant_of-self-in_err-packed g c =
    still c.self.inside.messages c.pack_call.new.messages c.pack_call.ensures.messages.0 c.self.inside.names.items c.pack_call.new.names.items c.pack_call.ensures.names.0
    c.self.inside.calls.items c.reserve.new.self.items c.pack_call.ensures.messages.1 c.pack_call.ensures.names.1 c.reserve.ensures.items c.self.invariant

on_err : {T E : Type 0} (r : Result T E) (P : Type 0) → P → OnErr r P
on_err (Ok x) P holds = tt
on_err (Err e) P holds = holds

pub returns-in_err-packed-clause-refused : goal.returns-in_err-packed-clause-refused
returns-in_err-packed-clause-refused g c =
    on_err c.from_residual-in_err-packed.result _
    (unchanged c.self.inside.messages c.pack_call.new.messages c.pack_call.ensures.messages.0 c.self.inside.names.items c.pack_call.new.names.items c.pack_call.ensures.names.0
    c.self.inside.calls.items c.reserve.new.self.items c.pack_call.ensures.messages.1 c.pack_call.ensures.names.1 c.reserve.ensures.items c.self.invariant ∙ c.self.view_is)

pub invariant_of-self-2 : goal.invariant_of-self-2
invariant_of-self-2 g c =
    let messages = c.pack_call.new.messages in
    let names = c.pack_call.new.names.items in
    let front = still c.self.inside.messages messages c.pack_call.ensures.messages.0 c.self.inside.names.items names c.pack_call.ensures.names.0
    c.self.inside.calls.items c.reserve.new.self.items c.pack_call.ensures.messages.1 c.pack_call.ensures.names.1 c.reserve.ensures.items c.self.invariant in
    subst (ArePackedCalls (length messages) (length names)) (sym c.push_reserved.ensures.items)
    (one_more_packed_call (length messages) (length names) c.reserve.new.self.items c.args.at c.in_ok-packed.packed front c.in_ok-packed.ensures.within)

pub returns-clause-pushed : goal.returns-clause-pushed
returns-clause-pushed g c =
    let messages = c.self.inside.messages in
    let names = c.self.inside.names.items in
    let more = c.pack_call.ensures.messages.0 in
    let others = c.pack_call.ensures.names.0 in
    let grown = c.pack_call.ensures.messages.1 in
    let longer = c.pack_call.ensures.names.1 in
    let all = c.self.inside.calls.items in
    let packed = c.in_ok-packed.packed in
    let call = c.args.call.now in
    let is : call_in (messages ++ more) (names ++ others) packed ≡ call = sym (λ i. call_in (grown i) (longer i) packed) ∙ c.in_ok-packed.ensures.packed in
    let items : c.push_reserved.new.self.items ≡ all ++ (c.args.at, packed) ∷ [] = c.push_reserved.ensures.items ∙ ap (λ (front : List (Moment × PackedCall)). front ++ (c.args.at, packed) ∷ []) c.reserve.ensures.items in
    (λ i. map (timed_in (grown i) (longer i)) (items i))
    ∙ (pushed_call messages more names others all c.args.at packed call c.self.invariant is ∙ ap (λ (front : List (Moment × Call)). front ++ (c.args.at, call) ∷ []) c.self.view_is)
