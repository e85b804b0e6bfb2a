-- A log without departures is lawful, and the first departure is the first reply that isn't the table's.
use Rattle.apex_judge.proofs.Common.{◌≡◌, ◌≢◌, ℕ, suc, ◌+◌, ◌<◌, Bool, true, false, if◌then◌else◌, List, [], ◌∷◌, ◌++◌, length, take, Some, None, refl, sym, ap, ◌∙◌, subst, arith, append_assoc, append-nil, length-append, slice_get, Call, Moment, Configuration, Entry, History, row_of, reply_of, reply_to, Seen, IsSound, Expected, expected_of, instead_of, departure_at, departures_after, agrees, reply_shown}
use Rattle.apex_judge.proofs.Common.{picture_of}
use Rattle.apex_ports.specs.Lawful.{IsLawful, IsLawfulEntry}
use Rattle.apex_ports.specs.LawfulLaws.{AreLawfulAfter}
use Rattle.apex_ports.proofs.LawfulSteps.{sound-push, sound-nil}
use Rattle.apex_judge.specs.declared.departure.Departure.{Departure}
use Rattle.apex_judge.specs.DepartureLaws.{ShowsWhatIsSeen, HasPartitions, NoDepartureIsLawful, FirstDeparture}
use Rattle.apex_judge.proofs.ReplyTests.{agrees_is, agrees_from}
use Rattle.apex_judge.proofs.PictureLaws.{picture_seen, lawful_is_true}

-- ---- a lawful log shows what is seen

pub shows_what_is_seen : ShowsWhatIsSeen
shows_what_is_seen config h p sound = picture_seen config h (picture_of config h) p (lawful_is_true config h sound)

pub same_reply : (config : Configuration) (h : History) (p : ℕ) (at : Moment) (call : Call) → IsSound config h → reply_shown config h p at call ≡ reply_to config h p at call
same_reply config h p at call sound = ap (λ (s : Seen). reply_of config s p (row_of config s p at call)) (shows_what_is_seen config h p sound)

-- ---- lists of departures

front_of_nil : {X : Type 0} (xs ys : List X) → xs ++ ys ≡ [] → (xs ≡ []) × (ys ≡ [])
front_of_nil [] ys none = (refl, none)
front_of_nil (x ∷ xs) ys none = absurd (cc)

-- an entry that is no departure has the standard's reply
no_departure : (index : ℕ) (b : Bool) (expected : Expected) → departure_at index (if b then None else Some expected) ≡ [] → b ≡ true
no_departure index true expected none = refl
no_departure index false expected none = absurd (cc)

-- each entry has a partition of the configuration
after_first : (config : Configuration) (x : Entry) (xs : History) → HasPartitions config (x ∷ xs) → HasPartitions config xs
after_first config x xs all k entry here = all (suc k) entry here

module _ (config : Configuration) where
  goes_on : (before : History) (e : Entry) → IsSound config before → e.partition < length config.partitions
      → agrees (reply_shown config before e.partition e.at e.call) e.reply ≡ true → IsSound config (before ++ e ∷ [])
  goes_on before e sound within test =
      sound-push config before e.partition e.at e.call e.reply sound within
      (agrees_is (reply_shown config before e.partition e.at e.call) e.reply test ∙ same_reply config before e.partition e.at e.call sound)

  all_lawful : (before entries : History) → IsSound config before → HasPartitions config entries → departures_after config before entries ≡ [] → IsSound config (before ++ entries)
  all_lawful before [] sound partitions none = subst (IsSound config) (sym (append-nil before)) sound
  all_lawful before (e ∷ entries) sound partitions none =
      let parts = front_of_nil (departure_at (length before) (instead_of config before e)) (departures_after config (before ++ e ∷ []) entries) none in
      let test = no_departure (length before) (agrees (reply_shown config before e.partition e.at e.call) e.reply) (expected_of config before e) parts.0 in
      let sound_too = goes_on before e sound (partitions 0 e refl) test in
      subst (IsSound config) (append_assoc before (e ∷ []) entries) (all_lawful (before ++ e ∷ []) entries sound_too (after_first config e entries partitions) parts.1)

  none_departs : (before entries : History) → IsSound config before → AreLawfulAfter config before entries → departures_after config before entries ≡ []
  none_departs before [] sound lawful = refl
  none_departs before (e ∷ entries) sound lawful =
      let first : IsLawfulEntry config before e = subst (λ (h : History). IsLawfulEntry config h e) (append-nil before) (lawful 0 e refl) in
      let standard = reply_shown config before e.partition e.at e.call in
      let test = agrees_from standard e.reply (first.1 ∙ sym (same_reply config before e.partition e.at e.call sound)) in
      let sound_too = goes_on before e sound first.0 test in
      let rest : AreLawfulAfter config (before ++ e ∷ []) entries = λ k entry here. rw append_assoc (lawful (suc k) entry here) in
      (λ i. departure_at (length before) (if test i then None else Some (expected_of config before e)) ++ departures_after config (before ++ e ∷ []) entries)
      ∙ none_departs (before ++ e ∷ []) entries sound_too rest

pub no_departure_is_lawful : NoDepartureIsLawful
no_departure_is_lawful config log valid partitions = record {
  none = λ none. (all_lawful config [] log (sound-nil config valid) partitions none).lawful;
  lawful = λ lawful. none_departs config [] log (sound-nil config valid) lawful;
}

-- ---- the first departure

-- what the first departure of entries says if they follow a sound log
record IsFirstAfter (config : Configuration) (before entries : History) (first : Departure) (k : ℕ) (entry : Entry) : Type 0 where
  here : slice_get entries k ≡ Some entry
  index : first.index ≡ length before + k
  sound : IsSound config (before ++ take k entries)
  table : first.expected.reply ≡ reply_to config (before ++ take k entries) entry.partition entry.at entry.call
  differs : entry.reply ≢ first.expected.reply

head_is : {X : Type 0} (x y : X) (xs ys : List X) → x ∷ xs ≡ y ∷ ys → x ≡ y
head_is x y xs ys same = cc

module _ (config : Configuration) where
  here_first : (before : History) (e : Entry) (entries : History) (first : Departure) → IsSound config before
      → agrees (reply_shown config before e.partition e.at e.call) e.reply ≡ false → record { index = length before; expected = expected_of config before e } ≡ first
      → IsFirstAfter config before (e ∷ entries) first 0 e
  here_first before e entries first sound test is = record {
    here = refl;
    index = sym (ap (λ (d : Departure). d.index) is) ∙ omega arith;
    sound = subst (IsSound config) (sym (append-nil before)) sound;
    table = sym (ap (λ (d : Departure). d.expected.reply) is)
        ∙ (same_reply config before e.partition e.at e.call sound ∙ ap (λ (h : History). reply_to config h e.partition e.at e.call) (sym (append-nil before)));
    differs = λ same.
        let standard = reply_shown config before e.partition e.at e.call in
        let yes = agrees_from standard e.reply (same ∙ sym (ap (λ (d : Departure). d.expected.reply) is)) in
        absurd (cc);
  }

  later_first : (before : History) (e : Entry) (entries : History) (first : Departure) (k : ℕ) (entry : Entry)
      → IsFirstAfter config (before ++ e ∷ []) entries first k entry → IsFirstAfter config before (e ∷ entries) first (suc k) entry
  later_first before e entries first k entry found =
      let same : (before ++ e ∷ []) ++ take k entries ≡ before ++ e ∷ take k entries = append_assoc before (e ∷ []) (take k entries) in
      record {
        here = found.here;
        index = let index = found.index in omega (arith, index, length-append before (e ∷ []));
        sound = subst (IsSound config) same found.sound;
        table = subst (λ (h : History). first.expected.reply ≡ reply_to config h entry.partition entry.at entry.call) same found.table;
        differs = found.differs;
      }

  first_after : (before entries : History) (first : Departure) (rest : List Departure) → IsSound config before → HasPartitions config entries
      → departures_after config before entries ≡ first ∷ rest → (k : ℕ) × (entry : Entry) × IsFirstAfter config before entries first k entry
  first_after before [] first rest sound partitions is = absurd (cc)
  first_after before (e ∷ entries) first rest sound partitions is =
      by_test (agrees (reply_shown config before e.partition e.at e.call) e.reply) refl is
      (λ sound_too found. first_after (before ++ e ∷ []) entries first rest sound_too (after_first config e entries partitions) found)
    where
      by_test : (b : Bool) → agrees (reply_shown config before e.partition e.at e.call) e.reply ≡ b
          → departure_at (length before) (if b then None else Some (expected_of config before e)) ++ departures_after config (before ++ e ∷ []) entries ≡ first ∷ rest
          → (IsSound config (before ++ e ∷ []) → departures_after config (before ++ e ∷ []) entries ≡ first ∷ rest → (k : ℕ) × (entry : Entry) × IsFirstAfter config (before ++ e ∷ []) entries first k entry)
          → (k : ℕ) × (entry : Entry) × IsFirstAfter config before (e ∷ entries) first k entry
      by_test true test found later =
          let more = later (goes_on config before e sound (partitions 0 e refl) test) found in
          (suc more.0, more.1, later_first before e entries first more.0 more.1 more.2)
      by_test false test found later =
          (0, e, here_first before e entries first sound test (head_is _ first (departures_after config (before ++ e ∷ []) entries) rest found))

pub first_departure : FirstDeparture
first_departure config log first rest valid partitions is =
    let found = first_after config [] log first rest (sound-nil config valid) partitions is in
    let index : first.index ≡ found.0 = let at = found.2.index in omega (arith, at) in (
      found.1,
      record {
        here = ap (λ (k : ℕ). slice_get log k) index ∙ found.2.here;
        lawful = subst (λ (k : ℕ). IsLawful config (take k log)) (sym index) found.2.sound.lawful;
        table = subst (λ (k : ℕ). first.expected.reply ≡ reply_to config (take k log) found.1.partition found.1.at found.1.call) (sym index) found.2.table;
        differs = found.2.differs;
      },
    )
