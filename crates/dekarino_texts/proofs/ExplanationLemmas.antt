-- Explaining lines one after the other, as a loop does.
use Rattle.dekarino_texts.proofs.Common.{◌≡◌, ℕ, ◌+◌, ◌≤◌, List, [], ◌∷◌, ◌++◌, length, length-append, Option, Some, None, Result, Ok, Err, refl, sym, ap, ◌∙◌, arith, subst, lines, Configuration, History, item_of_line, request_at, grows, complete, Notes, ExplainedLine, line_without_call, line_faulty, answered_after, explained_line, explained, entry_in, log_in, IsHanded, AreNoted, ArePortsNoted, LineEntry, history_of}
use Rattle.dekarino_texts.proofs.Common.{remarks_of, partition_remarks, channel_remarks}
use Rattle.std.specs.List.{before_first, after_first}
use Rattle.std.proofs.lemmas.Grind.{flat_map-append}
use Rattle.std.proofs.lemmas.List.{append-nil}
use Rattle.apex_ports.specs.declared.history.Request.{Request}
use Rattle.apex_texts.specs.declared.line_fault.LineFault.{LineFault}
use Rattle.apex_texts.specs.Replay.{entry_after}
use Rattle.apex_texts.specs.Text.{is_line_feed}
use Rattle.dekarino_texts.specs.declared.remark.Remark.{Remark}
use Rattle.dekarino_texts.proofs.HandedLemmas.{handed_one}
use Rattle.dekarino_texts.proofs.NoteLemmas.{history_of-push}

-- the sink was handed the lines so far, and what comes of the rest makes them the whole
pub record IsUnderWay {S : Type 0} (takes : S → ExplainedLine → S → Type 0) (config : Configuration) (history : History) (notes : Notes) (number : ℕ) (rest : List ℕ) (start sink : S) (total : List ExplainedLine) : Type 0 where
  pub done : List ExplainedLine
  pub handed : IsHanded takes start done sink
  pub served : history ≡ history_of (log_in done)
  pub noted : AreNoted config (log_in done) notes
  pub fewer : length (log_in done) ≤ number
  pub left : done ++ explained config history (number + 1) rest (lines rest) ≡ total

-- the notes of the ports are those of the history
pub ports_noted : {S : Type 0} (takes : S → ExplainedLine → S → Type 0) (config : Configuration) (history : History) (notes : Notes) (number : ℕ) (rest : List ℕ) (start sink : S) (total : List ExplainedLine)
    → IsUnderWay takes config history notes number rest start sink total → ArePortsNoted history notes.ports
ports_noted takes config history notes number rest start sink total was = subst (λ (given : History). ArePortsNoted given notes.ports) (sym was.served) was.noted.ports

-- ---- the entries of one line more

log_push : (done : List ExplainedLine) (line : ExplainedLine) → log_in (done ++ line ∷ []) ≡ log_in done ++ entry_in line
log_push done line = flat_map-append entry_in done (line ∷ []) ∙ ap (λ (more : List LineEntry). log_in done ++ more) (append-nil (entry_in line))

log_same : (done : List ExplainedLine) (line : ExplainedLine) → entry_in line ≡ [] → log_in (done ++ line ∷ []) ≡ log_in done
log_same done line none = log_push done line ∙ ap (λ (more : List LineEntry). log_in done ++ more) none ∙ append-nil (log_in done)

-- ---- one line more

cut : (config : Configuration) (history : History) (number : ℕ) (text after line : List ℕ) (all rest : List (List ℕ)) (item : Result (Option Request) LineFault)
    → all ≡ line ∷ rest → after ≡ after_first is_line_feed text → item_of_line (request_at config) line ≡ item
    → explained config history number text all ≡ explained_line config history number line (before_first is_line_feed text) item (λ later. explained config later (number + 1) after rest)
unfolding explained
cut config history number text after line all rest item here next is = rw (here, is, next) refl

module _ {S : Type 0} (takes : S → ExplainedLine → S → Type 0) (config : Configuration) (history : History) (notes : Notes) (number : ℕ) (rest after line : List ℕ) (start sink new : S) (total : List ExplainedLine) where
  -- after a line without a call
  pub explains_line : lines rest ≡ line ∷ lines after → after ≡ after_first is_line_feed rest → item_of_line (request_at config) line ≡ Ok None
      → takes sink (line_without_call (number + 1) line) new → IsUnderWay takes config history notes number rest start sink total → IsUnderWay takes config history notes (number + 1) after start new total
  explains_line here next is took was =
      let one = line_without_call (number + 1) line in
      let same : log_in (was.done ++ one ∷ []) ≡ log_in was.done = log_same was.done one refl in
      record {
        done = was.done ++ one ∷ [];
        handed = handed_one takes start sink new was.done one was.handed took;
        served = was.served ∙ ap history_of (sym same);
        noted = subst (λ (log : List LineEntry). AreNoted config log notes) (sym same) was.noted;
        fewer = omega (arith, ap length same, was.fewer);
        left = grows was.done (was.done ++ one ∷ []) (one ∷ []) _ _ total refl (cut config history (number + 1) rest after line (lines rest) (lines after) (Ok None) here next is) was.left;
      }

  -- after a line with a call
  pub explains_call : (request : Request) (later : History) (noted : Notes) → lines rest ≡ line ∷ lines after → after ≡ after_first is_line_feed rest → item_of_line (request_at config) line ≡ Ok (Some request)
      → later ≡ history ++ entry_after config history request ∷ [] → takes sink (answered_after config history (number + 1) line request) new
      → ((log : List LineEntry) → AreNoted config log notes → AreNoted config (log ++ record { line = number + 1; entry = entry_after config history request } ∷ []) noted)
      → IsUnderWay takes config history notes number rest start sink total → IsUnderWay takes config later noted (number + 1) after start new total
  explains_call request later noted here next is grew took notes_grew was =
      let one = answered_after config history (number + 1) line request in
      let entry : LineEntry = record { line = number + 1; entry = entry_after config history request } in
      let log = log_in was.done in
      let more : log_in (was.done ++ one ∷ []) ≡ log ++ entry ∷ [] = log_push was.done one in
      let longer : length (log ++ entry ∷ []) ≡ length log + 1 = length-append log (entry ∷ []) in
      record {
        done = was.done ++ one ∷ [];
        handed = handed_one takes start sink new was.done one was.handed took;
        served = grew ∙ (λ i. was.served i ++ entry_after config history request ∷ []) ∙ sym (history_of-push log entry) ∙ ap history_of (sym more);
        noted = subst (λ (all : List LineEntry). AreNoted config all noted) (sym more) (notes_grew log was.noted);
        fewer = omega (arith, ap length more, longer, was.fewer);
        left =
            let here : explained config history (number + 1) rest (lines rest) ≡ one ∷ explained config later (number + 1 + 1) after (lines after) =
            cut config history (number + 1) rest after line (lines rest) (lines after) (Ok (Some request)) here next is ∙ ap (λ (h : History). one ∷ explained config h (number + 1 + 1) after (lines after)) (sym grew) in
            grows was.done (was.done ++ one ∷ []) (one ∷ []) _ _ total refl here was.left;
      }

  -- at a faulty line
  pub explains_fault : (fault : LineFault) → lines rest ≡ line ∷ lines after → after ≡ after_first is_line_feed rest → item_of_line (request_at config) line ≡ Err fault
      → takes sink (line_faulty (number + 1) (before_first is_line_feed rest) fault) new → IsUnderWay takes config history notes number rest start sink total
      → IsHanded takes start total new × (notes.calls ≡ length (log_in total)) × (history ≡ history_of (log_in total))
  explains_fault fault here next is took was =
      let one = line_faulty (number + 1) (before_first is_line_feed rest) fault in
      let all : was.done ++ one ∷ [] ≡ total = ap (λ (more : List ExplainedLine). was.done ++ more) (sym (cut config history (number + 1) rest after line (lines rest) (lines after) (Err fault) here next is)) ∙ was.left in
      let same : log_in total ≡ log_in was.done = ap log_in (sym all) ∙ log_same was.done one refl in (
        subst (λ (given : List ExplainedLine). IsHanded takes start given new) all (handed_one takes start sink new was.done one was.handed took),
        was.noted.calls ∙ ap length (sym same),
        was.served ∙ ap history_of (sym same),
      )

-- ---- after the last line

no_line : (config : Configuration) (history : History) (number : ℕ) (text : List ℕ) (all : List (List ℕ)) → all ≡ [] → explained config history number text all ≡ []
unfolding explained
no_line config history number text all none = rw none refl

module _ {S : Type 0} (takes : S → ExplainedLine → S → Type 0) (config : Configuration) (history : History) (notes : Notes) (number : ℕ) (rest : List ℕ) (start sink : S) (total : List ExplainedLine) (none : lines rest ≡ []) (was : IsUnderWay takes config history notes number rest start sink total) where
  all_done : was.done ≡ total
  all_done = complete was.done _ total (no_line config history (number + 1) rest (lines rest) none) was.left

  pub explains_all : IsHanded takes start total sink
  explains_all = subst (λ (given : List ExplainedLine). IsHanded takes start given sink) all_done was.handed

  pub serves_all : history ≡ history_of (log_in total)
  serves_all = was.served ∙ ap (λ (given : List ExplainedLine). history_of (log_in given)) all_done

  pub counts_all : notes.calls ≡ length (log_in total)
  counts_all = was.noted.calls ∙ ap (λ (given : List ExplainedLine). length (log_in given)) all_done

  pub remarks_all : (remarks : List Remark) → remarks ≡ (notes.earlier.items ++ notes.not_made.items) ++ partition_remarks config history 0 config.partitions ++ channel_remarks config history 0 config.channels
      → remarks ≡ remarks_of config (log_in total)
  remarks_all remarks are =
      are ∙ (λ i. (was.noted.earlier i ++ was.noted.not_made i) ++ partition_remarks config (was.served i) 0 config.partitions ++ channel_remarks config (was.served i) 0 config.channels)
      ∙ ap (λ (given : List ExplainedLine). remarks_of config (log_in given)) all_done
