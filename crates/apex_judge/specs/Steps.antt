-- What one entry more changes in the picture that a log gives. A single reply that isn't the standard's is taken for a mistake
-- of the log; where what it is about departs again, the log is believed. A message that is received and waits is believed at
-- once.
use Rattle.std.specs.Prelude.{ℕ, Bool, true, false, ◌&&◌, ◌||◌, not, if◌then◌else◌, List, position, Option, None, is_some, unwrap_or, fold}
use Rattle.apex_judge.specs.Prelude.{bytes_eq, Call, ReceiveQueuing, Reply, Id, Received, Sample, Invalid, Configuration, port_of, Entry, sample_written, validity_read, History, mode_set, restarts, creates}
use Rattle.apex_judge.specs.declared.subject.Subject.{Subject}
use Rattle.apex_judge.specs.Evidence.{with_evidence}
use Rattle.apex_judge.specs.Picture.{Picture, opening, waiting_at, reply_in}
use Rattle.apex_judge.specs.Replies.{agrees}
use Rattle.apex_judge.specs.Subjects.{port_about, subject_of, is_doubted, with_doubt}
use Rattle.apex_judge.specs.Waiting.{waiting_after}

abbrev pub sample_after : Option Sample → Option Sample → Option Sample
sample_after None before = before
sample_after written before = written

-- the picture with the effects of an entry, whatever the standard has for its call
abbrev pub with_effects : Configuration → Entry → Picture → Picture
with_effects config entry picture = record picture {
  mode = λ p. unwrap_or (mode_set p entry) (picture.mode p);
  created = λ p id. creates p id entry || (picture.created p id && not (restarts p entry));
  last = λ p id. if creates p id entry then Invalid else unwrap_or (validity_read p id entry) (picture.last p id);
  waiting = λ c. waiting_after config c (picture.waiting c) entry;
  sample = λ c. sample_after (sample_written config c entry) (picture.sample c);
}

abbrev pub with_reply : Entry → Reply → Entry
with_reply entry reply = record entry { reply = reply }

-- the port that a creation names is created, with any logged identifier
abbrev pub named_reply : Option ℕ → Reply → Reply
named_reply port (Id id) = Id (unwrap_or port 0)
named_reply port reply = reply

-- the log is believed
abbrev pub when_believed : Configuration → Entry → Picture → Picture
when_believed config entry picture =
    with_evidence config entry (with_effects config (with_reply entry (named_reply (port_about config entry.partition entry.call) entry.reply)) picture)

-- a reply with a message that is among those that wait
abbrev pub is_among : List (List ℕ) → Reply → Bool
is_among waiting (Received message) = is_some (position (λ one. bytes_eq one message) waiting)
is_among waiting reply = false

-- a receive of a message that waits
abbrev pub receives_waiting : Configuration → Picture → ℕ → Call → Reply → Bool
receives_waiting config picture p (ReceiveQueuing id) reply = is_among (waiting_at picture (port_of config p id)) reply
receives_waiting config picture p call reply = false

abbrev pub is_receipt : Reply → Bool
is_receipt (Received message) = true
is_receipt _ = false

-- a receive of a message that waits, if the standard has a message too
abbrev pub receives_later : Configuration → Picture → ℕ → Call → Reply → Reply → Bool
receives_later config picture p call standard reply = is_receipt standard && receives_waiting config picture p call reply

-- an entry that departs is believed if its subject is doubted, or if it receives a waiting message other than the oldest
abbrev pub is_believed : Configuration → Entry → Reply → Subject → Picture → Bool
is_believed config entry standard subject picture =
    is_doubted picture entry.partition subject || receives_later config picture entry.partition entry.call standard entry.reply

-- after an entry that departs: as it is logged, if it is believed, or else as though the standard's reply were logged
abbrev pub when_departing : Configuration → Entry → Reply → Bool → Picture → Picture
when_departing config entry standard believed picture =
    if believed then when_believed config entry picture else with_effects config (with_reply entry standard) picture

-- after an entry about this subject, by whether it agrees; what an entry that departs is about is doubted from then on
abbrev pub judged : Configuration → Entry → Reply → Subject → Bool → Picture → Picture
judged config entry standard subject true picture = with_doubt entry.partition subject false (with_effects config entry picture)
judged config entry standard subject false picture =
    with_doubt entry.partition subject true (when_departing config entry standard (is_believed config entry standard subject picture) picture)

-- after an entry, if the standard has this reply
abbrev pub picture_by : Configuration → Entry → Reply → Picture → Picture
picture_by config entry standard picture =
    judged config entry standard (subject_of config entry standard) (agrees standard entry.reply) picture

-- after an entry
abbrev pub picture_after : Configuration → Picture → Entry → Picture
picture_after config picture entry =
    picture_by config entry (reply_in config picture entry.partition entry.at entry.call) picture

-- after a log
abbrev pub picture_of : Configuration → History → Picture
picture_of config log = fold (λ picture entry. picture_after config picture entry) opening log
