-- Judging a call that a system answered: whether its reply is the standard's, after the log of the calls before it.
use Rattle.std.specs.Prelude.{ℕ, ◌≡◌, nat_lt, if◌then◌else◌, List, length, [], ◌∷◌, ◌++◌, Option, None, Some, Result, Ok, Err}
use Rattle.apex_types.specs.declared.call.Call.{Call}
use Rattle.apex_types.specs.declared.message.TheConstants.{MESSAGE_LIMIT}
use Rattle.apex_types.specs.declared.moment.Moment.{Moment}
use Rattle.apex_types.specs.declared.reply.Reply.{Reply}
use Rattle.apex_module.specs.Configuration.{Configuration}
use Rattle.apex_module.specs.declared.fault.ConfigFault.{ConfigFault}
use Rattle.apex_ports.specs.History.{entry_of}
use Rattle.apex_judge.specs.Departures.{instead_of}
use Rattle.apex_judge.specs.JudgeView.{JudgeView}
use Rattle.apex_judge.specs.declared.departure.Expected.{Expected}
use Rattle.apex_c.specs.Asked.{Asked}
use Rattle.apex_c.specs.AskedRow.{service_numbered}
use Rattle.apex_c.specs.Found.{Found, for_buffer}
use Rattle.apex_c.specs.HeldJudge.{JudgeHeld}
use Rattle.apex_c.specs.Places.{buffer_after, length_after, message_in}
use Rattle.apex_c.specs.Replies.{numbers_of, reply_of_found}
use Rattle.apex_c.specs.Rows.{row_number}
use Rattle.apex_c.specs.Texts.{IsText}
use Rattle.apex_c.specs.declared.answer.TheConstants.{DEPARTS, NO_PARTITION, NOT_OPEN}
use Rattle.apex_c.specs.declared.asked.AskedCall.{AskedCall}
use Rattle.apex_c.specs.declared.judging.Departure.{Departure}
use Rattle.apex_c.specs.declared.judging.TheConstants.{AGREES}
use Rattle.apex_c.specs.declared.replies.NumberedReply.{NumberedReply}

-- the judge before the first call; none of a configuration that is refused
abbrev pub judge_at_start : Result Configuration ConfigFault → JudgeHeld
judge_at_start (Ok config) = Some (record { config = config; log = [] })
judge_at_start (Err fault) = None

-- the reply that C gives to a call
abbrev pub reply_given : AskedCall → NumberedReply → List ℕ → Result Reply ℕ
reply_given asked given message = reply_of_found given message (service_numbered asked.service)

-- found of a partition of the judge of a handle that is open
abbrev pub in_judge : {X : Type 0} → JudgeHeld → ℕ → (JudgeView → X) → Found X
in_judge None p find = Err NOT_OPEN
in_judge (Some judge) p find = if nat_lt p (length judge.config.partitions) then Ok (find judge) else Err NO_PARTITION

-- found of a call and a reply that were given
abbrev pub of_given : {X : Type 0} → JudgeHeld → ℕ → Asked → Result Reply ℕ → (JudgeView → Call → Reply → X) → Found X
of_given held p (Err number) reply find = Err number
of_given held p (Ok call) (Err number) find = Err number
of_given held p (Ok call) (Ok reply) find = in_judge held p (λ judge. find judge call reply)

-- what the standard has instead of the reply, if they differ, for a buffer of this many bytes
abbrev pub judged_in : ℕ → JudgeHeld → ℕ → Moment → Asked → Result Reply ℕ → Found (Option Expected)
judged_in room held p at asked reply = for_buffer MESSAGE_LIMIT room
    (of_given held p asked reply (λ judge call reply. instead_of judge.config judge.log (entry_of p at call reply)))

-- the judge with the call in its log
abbrev pub noted_in : ℕ → JudgeHeld → ℕ → Moment → Asked → Result Reply ℕ → Found JudgeView
noted_in room held p at asked reply = for_buffer MESSAGE_LIMIT room
    (of_given held p asked reply (λ judge call reply. record judge { log = judge.log ++ entry_of p at call reply ∷ [] }))

-- what the judge answers
abbrev pub judged_answer : Found (Option Expected) → ℕ
judged_answer (Err number) = number
judged_answer (Ok None) = AGREES
judged_answer (Ok (Some expected)) = DEPARTS

-- the log gains just the call; a call that isn't judged changes nothing
abbrev pub judge_after : Found JudgeView → JudgeHeld → JudgeHeld
judge_after (Ok judge) held = Some judge
judge_after (Err number) held = held

-- the places of a departure: the standard's row and reply, its message in the buffer's first bytes, and the words
pub record IsShown (expected : Expected) (new : Departure) (old_buffer new_buffer old_words new_words : List ℕ) : Type 0 where
  pub row : new.row ≡ row_number expected.row
  pub standard : new.standard ≡ numbers_of expected.reply
  pub buffer : new_buffer ≡ buffer_after (message_in (Some expected.reply)) old_buffer
  pub message_length : new.message_length ≡ length_after (message_in (Some expected.reply)) 0
  pub words : IsText old_words new_words new.words_length

-- the places of a call that was judged: those of its departure; unchanged if it doesn't depart
abbrev pub IsShownFor : Found (Option Expected) → Departure → Departure → List ℕ → List ℕ → List ℕ → List ℕ → Type 0
IsShownFor (Ok (Some expected)) old new old_buffer new_buffer old_words new_words =
    IsShown expected new old_buffer new_buffer old_words new_words
IsShownFor _ old new old_buffer new_buffer old_words new_words =
    (new ≡ old) × (new_buffer ≡ old_buffer) × (new_words ≡ old_words)
