-- What is noted once a call is added.
use Rattle.dekarino_texts.proofs.Common.{◌≡◌, ℕ, ◌+◌, ◌≤◌, List, [], ◌∷◌, ◌++◌, length, length-append, refl, sym, ap, ◌∙◌, arith, append_assoc, map-append, Configuration, Entry, History, Notes, AreNoted, last_moment, LineEntry, history_of, earlier, moment_remarks, not_made, idle_remarks}
use Rattle.std.proofs.lemmas.Grind.{flat_map-append}
use Rattle.std.proofs.lemmas.List.{append-nil}
use Rattle.apex_types.specs.declared.moment.Moment.{Moment}
use Rattle.dekarino_texts.specs.declared.remark.Remark.{Remark}

pub history_of-push : (log : List LineEntry) (one : LineEntry) → history_of (log ++ one ∷ []) ≡ history_of log ++ one.entry ∷ []
history_of-push log one = map-append (λ (each : LineEntry). each.entry) log (one ∷ [])

pub last_moment-push : (last : Moment) (log : List LineEntry) (one : LineEntry) → last_moment last (log ++ one ∷ []) ≡ one.entry.at
last_moment-push last [] one = refl
last_moment-push last (x ∷ log) one = last_moment-push x.entry.at log one

pub moment_remarks-push : (last : Moment) (log : List LineEntry) (one : LineEntry)
    → moment_remarks last (log ++ one ∷ []) ≡ moment_remarks last log ++ earlier (last_moment last log) one.line one.entry.at
moment_remarks-push last [] one = append-nil (earlier last one.line one.entry.at)
moment_remarks-push last (x ∷ log) one =
    ap (λ (rest : List Remark). earlier last x.line x.entry.at ++ rest) (moment_remarks-push x.entry.at log one)
    ∙ sym (append_assoc (earlier last x.line x.entry.at) (moment_remarks x.entry.at log) (earlier (last_moment x.entry.at log) one.line one.entry.at))

pub idle_remarks-push : (config : Configuration) (log : List LineEntry) (one : LineEntry)
    → idle_remarks config (log ++ one ∷ []) ≡ idle_remarks config log ++ not_made config one.line one.entry.partition one.entry.reply
idle_remarks-push config log one =
    flat_map-append (λ (each : LineEntry). not_made config each.line each.entry.partition each.entry.reply) log (one ∷ [])
    ∙ ap (λ (rest : List Remark). idle_remarks config log ++ rest) (append-nil (not_made config one.line one.entry.partition one.entry.reply))

-- ---- the notes of a history

-- the notes are those of the history's calls, of which there are no more than the number
pub record AreNotesOf (config : Configuration) (history : History) (number : ℕ) (notes : Notes) : Type 0 where
  pub log : List LineEntry
  pub noted : AreNoted config log notes
  pub served : history ≡ history_of log
  pub fewer : length log ≤ number

pub notes_before : (config : Configuration) (history : History) (notes : Notes) → history ≡ [] → AreNoted config [] notes → AreNotesOf config history 0 notes
notes_before config history notes fresh noted = record { log = []; noted = noted; served = fresh; fewer = omega arith }

pub notes_more : (config : Configuration) (history later : History) (number : ℕ) (entry : Entry) (old new : Notes) → AreNotesOf config history number old → later ≡ history ++ entry ∷ []
    → ((log : List LineEntry) → AreNoted config log old → AreNoted config (log ++ record { line = number + 1; entry = entry } ∷ []) new) → AreNotesOf config later (number + 1) new
notes_more config history later number entry old new was grew noted =
    let one : LineEntry = record { line = number + 1; entry = entry } in
    let longer : length (was.log ++ one ∷ []) ≡ length was.log + 1 = length-append was.log (one ∷ []) in
    record {
      log = was.log ++ one ∷ [];
      noted = noted was.log was.noted;
      served = grew ∙ (ap (λ (given : History). given ++ entry ∷ []) was.served ∙ sym (history_of-push was.log one));
      fewer = omega (arith, longer, was.fewer);
    }
