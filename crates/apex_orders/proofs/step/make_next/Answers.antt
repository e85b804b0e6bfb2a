use Rattle.apex_orders.proofs.Common.{◌≡◌, ◌<◌, ◌≤◌, ◌-◌, ◌^◌, ◌++◌, ◌∷◌, [], length, List, Some, rules, arith, refl, ap, sym, ◌∙◌, append-nil, slice_get, Call, Moment, count_of, History, entry_of, entries_of, reply_to, at_index, next_entries}
use Rattle.apex_ports.specs.Noted.{reply_by}
use Rattle.apex_orders.proofs.StepLemmas.{makes_nothing, whole_count, makes_next}
use Rattle.apex_orders.proofs.step.make_next.Goals as goal

nothing_next : (c : goal.Then-index-len) → next_entries c.args.ports.now.config c.args.scripts.now c.args.ports.now.history c.args.p ≡ []
nothing_next c =
    let script = c.index-scripts-p.result in
    let within : c.args.p < length c.args.scripts.now = omega arith in
    let here : slice_get c.args.scripts.now c.args.p ≡ Some script = at_index c.args.scripts.now c.args.p script within c.index-scripts-p.is in
    let count : c.len.result ≡ length script = search rules in
    let made : length script ≤ count_of (entries_of c.args.p c.args.ports.now.history) = omega (arith, count, c.if-index-len.true, c.calls-index.ensures) in
    makes_nothing c.args.ports.now.config c.args.scripts.now c.args.ports.now.history c.args.p script here made

pub returns-then-index-len-clause-history : goal.returns-then-index-len-clause-history
returns-then-index-len-clause-history c = sym (ap (λ (es : History). c.args.ports.now.history ++ es) (nothing_next c) ∙ append-nil c.args.ports.now.history)

pub returns-then-index-len-clause-call : goal.returns-then-index-len-clause-call
returns-then-index-len-clause-call c = nothing_next c

whole : (c : goal.After-answer-reply) → c.calls-index.result ≡ length (entries_of c.args.p c.args.ports.now.history)
whole c =
    let script = c.index-scripts-p.result in
    let within : c.args.p < length c.args.scripts.now = omega arith in
    let here : slice_get c.args.scripts.now c.args.p ≡ Some script = at_index c.args.scripts.now c.args.p script within c.index-scripts-p.is in
    let few : c.calls-index.result < 2 ^ 64 - 1 = omega (arith, c.if-index-len.false, c.len.type_inv) in
    whole_count c.args.ports.now.config c.args.scripts.now c.args.ports.now.history c.args.p script here c.calls-index.result c.calls-index.ensures few

made_next : (c : goal.After-answer-reply) → next_entries c.args.ports.now.config c.args.scripts.now c.args.ports.now.history c.args.p
    ≡ entry_of c.args.p c.index.result.now.0 c.index.result.now.1 (reply_by c.answer-reply.result) ∷ []
made_next c =
    let script = c.index-scripts-p.result in
    let timed = c.index.result.now in
    let within : c.args.p < length c.args.scripts.now = omega arith in
    let here : slice_get c.args.scripts.now c.args.p ≡ Some script = at_index c.args.scripts.now c.args.p script within c.index-scripts-p.is in
    let inside : c.calls-index.result < length c.script.inside.calls.items = search rules in
    let at : slice_get script c.calls-index.result ≡ Some timed =
    ap (λ (calls : List (Moment × Call)). slice_get calls c.calls-index.result) (sym c.script.view_is) ∙ at_index c.script.inside.calls.items c.calls-index.result timed inside c.index.ensures in
    let reply = c.answer-reply.ensures.reply ∙ ap (λ (it : Call). reply_to c.args.ports.now.config c.args.ports.now.history c.args.p timed.0 it) c.of.ensures.call in
    makes_next c.args.ports.now.config c.args.scripts.now c.args.ports.now.history c.args.p script here c.calls-index.result timed (whole c) at
    ∙ ap (λ r. entry_of c.args.p timed.0 timed.1 r ∷ []) (sym reply)

pub returns-clause-history : goal.returns-clause-history
returns-clause-history c =
    let at = c.index.result.now.0 in
    c.answer-reply.ensures.entry
    ∙ (λ i. c.args.ports.now.history ++ entry_of c.args.p at (c.of.ensures.call i) (reply_by c.answer-reply.result) ∷ [])
    ∙ ap (λ (es : History). c.args.ports.now.history ++ es) (sym (made_next c))

pub returns-clause-call : goal.returns-clause-call
returns-clause-call c = record {
  partition = refl;
  index = whole c;
  at = c.index.result.now.0;
  call = c.index.result.now.1;
  entry = made_next c;
}
