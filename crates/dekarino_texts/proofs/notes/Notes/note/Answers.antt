use Rattle.dekarino_texts.proofs.Common.{◌≡◌, ◌+◌, [], ◌∷◌, ◌++◌, length, length-append, sym, ◌∙◌, arith, entry_of, LineEntry, history_of, start, earlier, not_made}
use Rattle.dekarino_texts.proofs.NoteLemmas.{history_of-push, last_moment-push, moment_remarks-push, idle_remarks-push}
use Rattle.dekarino_texts.proofs.notes.Notes.note.Goals as goal

pub returns : goal.returns
returns c = λ log noted.
    let asked = c.args.request.now in
    let one : LineEntry = record { line = c.args.line; entry = entry_of asked.partition asked.at asked.call c.args.reply.now } in
    let longer : length (log ++ one ∷ []) ≡ length log + 1 = length-append log (one ∷ []) in
    let before = noted.calls in
    record {
      calls = omega arith;
      last = sym (last_moment-push start log one);
      earlier = c.in_ok-push_earlier.ensures ∙ (λ i. noted.earlier i ++ earlier (noted.last i) c.args.line asked.at) ∙ sym (moment_remarks-push start log one);
      not_made = c.in_ok-push_not_made.ensures ∙ (λ i. noted.not_made i ++ not_made c.args.config.now c.args.line asked.partition c.args.reply.now) ∙ sym (idle_remarks-push c.args.config.now log one);
      ports = rw (history_of-push log one) (c.in_ok-note.ensures (history_of log) noted.ports);
    }
