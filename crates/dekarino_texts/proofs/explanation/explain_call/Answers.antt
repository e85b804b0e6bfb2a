use Rattle.dekarino_texts.proofs.Common.{◌≡◌, ℕ, ◌++◌, ◌∷◌, [], List, Result, Ok, Err, OnOk, ap, ◌∙◌, subst, Configuration, entry_of, Notes, ExplainedLine, line_with, answered_after, AreNoted, LineEntry}
use Rattle.apex_types.specs.declared.call.Call.{Call}
use Rattle.apex_types.specs.declared.reply.Reply.{Reply}
use Rattle.apex_ports.specs.declared.history.Request.{Request}
use Rattle.apex_ports.specs.ReplyTable.{row_of}
use Rattle.apex_ports.specs.Seen.{seen}
use Rattle.dekarino_texts.proofs.explanation.explain_call.Goals as goal

on_ok : {T E : Type 0} (r : Result T E) (P : Type 0) → P → OnOk r P
on_ok (Ok x) P holds = holds
on_ok (Err e) P holds = tt

-- the notes grew by a call that got this reply
abbrev Grew : Notes → Notes → ℕ → Request → Configuration → Reply → Type 0
Grew old new number request config reply =
    (log : List LineEntry) → AreNoted config log old
    → AreNoted config (log ++ record { line = number; entry = entry_of request.partition request.at request.call reply } ∷ []) new

pub returns-clause-handed : goal.returns-clause-handed
returns-clause-handed g c =
    let request = c.args.request.now in
    let config = c.args.ports.now.config in
    let here = seen config c.args.ports.now.history request.partition in
    let row = c.row-row.ensures ∙ ap (λ (it : Call). row_of config here request.partition request.at it) c.of.ensures.call in
    let same : line_with c.args.number c.args.line.now request c.row-row.result c.call-reply.result ≡ answered_after c.args.ports.now.config c.args.ports.now.history c.args.number c.args.line.now request =
    (λ i. line_with c.args.number c.args.line.now request (row i) (c.call-reply.ensures.reply i)) in
    subst (λ (line : ExplainedLine). OnOk c.call.result (g.S.ExplanationSink.takes c.args.sink.now line c.call.new.self)) same c.call.ensures

pub returns-clause-noted : goal.returns-clause-noted
returns-clause-noted g c =
    let request = c.args.request.now in
    let new = c.note.new.self in
    let here = subst (λ (given : Configuration). Grew c.args.notes.now new c.args.number request given c.call-reply.result) (c.config.ensures.config ∙ c.call-reply.ensures.config) c.in_ok-note.ensures in
    on_ok c.call.result _ (subst (λ (reply : Reply). Grew c.args.notes.now new c.args.number request c.args.ports.now.config reply) c.call-reply.ensures.reply here)
