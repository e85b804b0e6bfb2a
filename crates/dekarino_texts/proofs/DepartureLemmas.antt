-- Judging a log, entry by entry.
use Rattle.dekarino_texts.proofs.Common.{◌≡◌, ℕ, ◌+◌, ◌≤◌, List, [], ◌∷◌, ◌++◌, Option, Some, None, Result, Ok, Err, refl, sym, ◌∙◌, subst, append-nil, append_assoc, arith, Configuration, Entry, History, instead_of, Own, none_known, entry_in_ours, own_after, replaced_in, polled_entry, max_wait_of, DepartureCounts, LoggedDeparture, IsJudged, all_to_judge, known_in, log_to_judge, counts_with, departures_handed}
use Rattle.dekarino_texts.proofs.Common.{handed_after, judged_counts_after, no_counts, IsHanded}
use Rattle.apex_judge.specs.declared.departure.Expected.{Expected}
use Rattle.apex_logs.specs.declared.log.FaultyLine.{FaultyLine}
use Rattle.apex_logs.specs.declared.log.LoggedEntry.{LoggedEntry}
use Rattle.apex_logs.specs.declared.time_out.MaxWait.{MaxWait}
use Rattle.apex_logs.specs.declared.time_out.TimeOut.{TimeOut}
use Rattle.apex_logs.specs.Log.{before}
use Rattle.dekarino_texts.specs.declared.departures.LogPlace.{LogPlace}
use Rattle.dekarino_texts.specs.declared.departures.Reading.{Reading}
use Rattle.dekarino_texts.proofs.HandedLemmas.{handed_more}

-- an entry is one call more, and one departure more at most
pub one_call_more : (counts : DepartureCounts) (instead : Option Expected) → (counts_with counts instead).calls ≡ counts.calls + 1
one_call_more counts None = refl
one_call_more counts (Some expected) = refl

pub as_many_at_most : (counts : DepartureCounts) (instead : Option Expected) → counts.departures ≤ counts.calls → (counts_with counts instead).departures ≤ (counts_with counts instead).calls
as_many_at_most counts None fewer = omega arith
as_many_at_most counts (Some expected) fewer = omega arith

-- the sink was handed what comes before the rest of the log, and judging that makes it the whole
pub record IsUnderWay {S : Type 0} (takes : S → LoggedDeparture → S → Type 0) (config : Configuration) (reading : Reading) (most : ℕ) (own : Own) (log : History) (counts : DepartureCounts) (left whole : Result (List LoggedEntry) FaultyLine) (start sink : S) : Type 0 where
  pub done : List LoggedDeparture
  pub handed : IsHanded takes start done sink
  pub goes_on : (entries : List LoggedEntry) → left ≡ Ok entries
      → (every : List LoggedEntry) × (whole ≡ Ok every)
      × (done ++ handed_after config most log counts (all_to_judge config reading.time_outs own entries) ≡ handed_after config most [] no_counts (log_to_judge config reading every))
      × (judged_counts_after config log counts (all_to_judge config reading.time_outs own entries) ≡ judged_counts_after config [] no_counts (log_to_judge config reading every))
  pub refuses : (faulty : FaultyLine) → left ≡ Err faulty → whole ≡ Err faulty

module _ {S : Type 0} (takes : S → LoggedDeparture → S → Type 0) (config : Configuration) (reading : Reading) (most : ℕ) where
  -- before the first entry
  pub starts : (whole : Result (List LoggedEntry) FaultyLine) (own : Own) (log : History) (start : S) → log ≡ [] → own ≡ none_known reading.own_ids config
      → IsUnderWay takes config reading most own log no_counts whole whole start start
  starts whole own log start fresh known = record {
    done = [];
    handed = refl;
    goes_on = λ entries is. (entries, is, rw (fresh, known) refl, rw (fresh, known) refl);
    refuses = λ faulty is. is;
  }

  module _ (own : Own) (log : History) (counts : DepartureCounts) (line : ℕ) (entry : Entry) (time_out : TimeOut) (whole : Result (List LoggedEntry) FaultyLine) (start sink new : S) where
    next_left : (left after : Result (List LoggedEntry) FaultyLine) (entries : List LoggedEntry) → left ≡ before line (Ok (Some (entry, time_out))) after → after ≡ Ok entries → left ≡ Ok (record { line = line; entry = entry; time_out = time_out } ∷ entries)
    next_left left after entries next is = rw is at next

    faulty_left : (left after : Result (List LoggedEntry) FaultyLine) (faulty : FaultyLine) → left ≡ before line (Ok (Some (entry, time_out))) after → after ≡ Err faulty → left ≡ Err faulty
    faulty_left left after faulty next is = rw is at next

    abbrev wait : MaxWait
    wait = max_wait_of reading.time_outs entry.call time_out

    abbrev ours : Entry
    ours = entry_in_ours config own entry

    abbrev judged : Entry
    judged = polled_entry wait ours

    abbrev place : LogPlace
    place = record { line = line; time_out = time_out; wait = wait; known = known_in (replaced_in config own entry) }

    -- at the next entry
    pub judges : (left after : Result (List LoggedEntry) FaultyLine) → left ≡ before line (Ok (Some (entry, time_out))) after
        → IsHanded takes sink (departures_handed most counts.departures place entry ours.call (instead_of config log judged)) new
        → IsUnderWay takes config reading most own log counts left whole start sink
        → IsUnderWay takes config reading most (own_after config own entry) (log ++ judged ∷ []) (counts_with counts (instead_of config log judged)) after whole start new
    unfolding all_to_judge handed_after judged_counts_after
    judges left after next handed was =
        let more = departures_handed most counts.departures place entry ours.call (instead_of config log judged) in
        record {
          done = was.done ++ more;
          handed = handed_more takes start sink new was.done more was.handed handed;
          goes_on = λ entries is.
              let rest = handed_after config most (log ++ judged ∷ []) (counts_with counts (instead_of config log judged)) (all_to_judge config reading.time_outs (own_after config own entry) entries) in
              let (every, whole_is, lines, counted) = was.goes_on (record { line = line; entry = entry; time_out = time_out } ∷ entries) (next_left left after entries next is) in
              (every, whole_is, append_assoc was.done more rest ∙ lines, counted);
          refuses = λ faulty is. was.refuses faulty (faulty_left left after faulty next is);
        }

  -- at the end of the entries
  pub ends : (own : Own) (log : History) (counts : DepartureCounts) (left whole : Result (List LoggedEntry) FaultyLine) (start sink : S) → left ≡ Ok [] → IsUnderWay takes config reading most own log counts left whole start sink
      → IsJudged takes config reading most whole start sink counts
  unfolding all_to_judge handed_after judged_counts_after
  ends own log counts left whole start sink none was =
      let (every, is, lines, counted) = was.goes_on [] none in
      (every, is, subst (λ (given : List LoggedDeparture). IsHanded takes start given sink) (sym (append-nil was.done) ∙ lines) was.handed, counted)
