-- Judging a log, line by line.
use Rattle.dekarino_texts.proofs.Common.{◌≡◌, ℕ, ◌+◌, ◌≤◌, true, false, List, [], ◌∷◌, ◌++◌, Some, None, Result, Ok, Err, IfSome, inl, inr, refl, sym, ap, ◌∙◌, subst, append-nil, append_assoc, Configuration, Entry, History, instead_of, Own, none_known, entry_in_ours, own_after, replaced_in, polled_entry, max_wait_of, DepartureCounts, LoggedDeparture, AreFirstJudged, IsJudged, IsJudgedThrough, IsStoppedAt, counts_with}
use Rattle.dekarino_texts.proofs.Common.{departures_handed, known_in, no_counts, stopped_at, IsHanded}
use Rattle.apex_logs.specs.declared.line_source.ReadError.{ReadError}
use Rattle.apex_logs.specs.declared.line_source.ReadError.TheVariants as reads
use Rattle.apex_logs.specs.declared.line_source.StepError.{StepError}
use Rattle.apex_logs.specs.declared.line_source.StepError.TheVariants.{Fault, Unread}
use Rattle.apex_logs.specs.declared.log.FaultyLine.{FaultyLine}
use Rattle.apex_logs.specs.declared.log.LoggedEntry.{LoggedEntry}
use Rattle.apex_logs.specs.declared.log_fault.LogFault.{LogFault}
use Rattle.apex_logs.specs.declared.time_out.MaxWait.{MaxWait}
use Rattle.apex_logs.specs.declared.time_out.TimeOut.{TimeOut}
use Rattle.apex_logs.specs.LineSource.{IsFaultyStep, KnownLines, LeavesLines}
use Rattle.apex_logs.specs.Log.{entries_from}
use Rattle.apex_logs.specs.LogLine.{entry_of_line, ends_calls}
use Rattle.apex_logs.specs.TimedCall.{logged_request_at}
use Rattle.apex_logs.proofs.LogLemmas as of_log
use Rattle.dekarino_texts.specs.declared.departures.LogPlace.{LogPlace}
use Rattle.dekarino_texts.specs.declared.departures.Reading.{Reading}
use Rattle.dekarino_texts.specs.declared.judged_lines.JudgeError.TheVariants as stops
use Rattle.dekarino_texts.specs.Departures.{log_in}
use Rattle.dekarino_texts.proofs.DepartureLemmas.{IsUnderWay, starts, judges, ends}

-- ---- what is left of known lines

leaves_all : (all : KnownLines) → LeavesLines all [] all
leaves_all None = tt
leaves_all (Some lines) = refl

leaves_more : (all left after : KnownLines) (first : List (List ℕ)) (line : List ℕ) → LeavesLines all first left → LeavesLines left (line ∷ []) after → LeavesLines all (first ++ line ∷ []) after
leaves_more None left after first line one two = tt
leaves_more (Some xs) None after first line one two = absurd one
leaves_more (Some xs) (Some ys) None first line one two = absurd two
leaves_more (Some xs) (Some ys) (Some zs) first line one two =
    one ∙ ap (λ (lines : List (List ℕ)). first ++ lines) two ∙ sym (append_assoc first (line ∷ []) zs)

-- the first lines were read, and whatever lines follow, what the sink was handed is what comes before them
pub record AreRead {S : Type 0} (takes : S → LoggedDeparture → S → Type 0) (config : Configuration) (reading : Reading) (most : ℕ) (own : Own) (log : History) (counts : DepartureCounts) (number : ℕ) (all left : KnownLines) (start sink : S) : Type 0 where
  pub first : List (List ℕ)
  pub leaves : LeavesLines all first left
  pub under_way : (rest : List (List ℕ)) → IsUnderWay takes config reading most own log counts (entries_from (logged_request_at config) number rest) (log_in config (first ++ rest)) start sink

module _ {S : Type 0} (takes : S → LoggedDeparture → S → Type 0) (config : Configuration) (reading : Reading) (most : ℕ) where
  -- before the first line
  pub begins : (own : Own) (log : History) (all : KnownLines) (start : S) → log ≡ [] → own ≡ none_known reading.own_ids config → AreRead takes config reading most own log no_counts 1 all all start start
  begins own log all start fresh known = record {
    first = [];
    leaves = leaves_all all;
    under_way = λ rest. starts takes config reading most (log_in config rest) own log start fresh known;
  }

  module _ (own : Own) (log : History) (counts : DepartureCounts) (number : ℕ) (all left : KnownLines) (start sink : S) (was : AreRead takes config reading most own log counts number all left start sink) where
    -- the lines that were read, and no more
    first_judged : (lines rest : List (List ℕ)) → lines ≡ was.first ++ rest → AreFirstJudged takes config reading most lines start sink counts
    first_judged lines rest cut = record {
      first = was.first;
      others = rest;
      cut = cut;
      judged =
          subst (λ (read : List (List ℕ)). IsJudged takes config reading most (log_in config read) start sink counts) (append-nil was.first)
          (ends takes config reading most own log counts (entries_from (logged_request_at config) number []) (log_in config (was.first ++ [])) start sink (of_log.has_no_line (logged_request_at config) number [] refl) (was.under_way []));
    }

    -- if no line is left
    all_judged : (lines rest : List (List ℕ)) → lines ≡ was.first ++ rest → entries_from (logged_request_at config) number rest ≡ Ok [] → IsJudged takes config reading most (log_in config lines) start sink counts
    all_judged lines rest cut none =
        subst (λ (read : List (List ℕ)). IsJudged takes config reading most (log_in config read) start sink counts) (sym cut)
        (ends takes config reading most own log counts (entries_from (logged_request_at config) number rest) (log_in config (was.first ++ rest)) start sink none (was.under_way rest))

    pub at_end : IfSome left (λ rest. rest ≡ []) → IfSome all (IsJudgedThrough takes config reading most start sink counts)
    at_end none = by all left was.leaves none
      where
        by : (all left : KnownLines) → LeavesLines all was.first left → IfSome left (λ rest. rest ≡ []) → IfSome all (IsJudgedThrough takes config reading most start sink counts)
        by None left leaves none = tt
        by (Some lines) None leaves none = absurd leaves
        by (Some lines) (Some rest) leaves none = inl (all_judged lines rest leaves (of_log.has_no_line (logged_request_at config) number rest none))

    -- where as many departures as asked for were found
    pub at_most : most ≤ counts.departures → IfSome all (IsJudgedThrough takes config reading most start sink counts)
    at_most enough = by all left was.leaves
      where
        by : (all left : KnownLines) → LeavesLines all was.first left → IfSome all (IsJudgedThrough takes config reading most start sink counts)
        by None left leaves = tt
        by (Some lines) None leaves = absurd leaves
        by (Some lines) (Some rest) leaves = inr (enough, first_judged lines rest leaves)

    pub known_first : IfSome all (λ lines. AreFirstJudged takes config reading most lines start sink counts)
    known_first = by all left was.leaves
      where
        by : (all left : KnownLines) → LeavesLines all was.first left → IfSome all (λ lines. AreFirstJudged takes config reading most lines start sink counts)
        by None left leaves = tt
        by (Some lines) None leaves = absurd leaves
        by (Some lines) (Some rest) leaves = first_judged lines rest leaves

    -- at a line that can't be read
    pub at_unread : (line : ℕ) (error : ReadError) → IfSome all (IsStoppedAt takes config reading most start sink counts (stopped_at line (Unread error)))
    at_unread line error = by all error known_first
      where
        by : (all : KnownLines) (error : ReadError) → IfSome all (λ lines. AreFirstJudged takes config reading most lines start sink counts) → IfSome all (IsStoppedAt takes config reading most start sink counts (stopped_at line (Unread error)))
        by None error first = tt
        by (Some lines) reads.TooLong first = first
        by (Some lines) (reads.Io error) first = first
        by (Some lines) reads.OutOfMemory first = tt

    module _ (line : List ℕ) (after : KnownLines) (taken : LeavesLines left (line ∷ []) after) where
      -- at a line that ends the calls
      pub at_calls_end : ends_calls line ≡ true → IfSome all (IsJudgedThrough takes config reading most start sink counts)
      at_calls_end is = by all left after was.leaves taken
        where
          by : (all left after : KnownLines) → LeavesLines all was.first left → LeavesLines left (line ∷ []) after → IfSome all (IsJudgedThrough takes config reading most start sink counts)
          by None left after leaves taken = tt
          by (Some lines) None after leaves taken = absurd leaves
          by (Some lines) (Some rest) None leaves taken = absurd taken
          by (Some lines) (Some rest) (Some more) leaves taken = inl (all_judged lines rest leaves (of_log.ends (logged_request_at config) number rest line more taken is))

      -- at a faulty line
      pub at_fault : (fault : LogFault) → ends_calls line ≡ false → entry_of_line (logged_request_at config) line ≡ Err fault
          → IfSome all (IsStoppedAt takes config reading most start sink counts (stops.Line (record { line = number; fault = fault })))
      at_fault fault goes is = by all left after was.leaves taken
        where
          by : (all left after : KnownLines) → LeavesLines all was.first left → LeavesLines left (line ∷ []) after → IfSome all (IsStoppedAt takes config reading most start sink counts (stops.Line (record { line = number; fault = fault })))
          by None left after leaves taken = tt
          by (Some lines) None after leaves taken = absurd leaves
          by (Some lines) (Some rest) None leaves taken = absurd taken
          by (Some lines) (Some rest) (Some more) leaves taken =
              let here : entries_from (logged_request_at config) number rest ≡ Err (record { line = number; fault = fault }) = of_log.reads (logged_request_at config) number rest line more (Err fault) taken goes is in
              (first_judged lines rest leaves, ap (log_in config) leaves ∙ (was.under_way rest).refuses (record { line = number; fault = fault }) here)

      -- one more line is read
      one_more : (rest : List (List ℕ)) → log_in config (was.first ++ line ∷ rest) ≡ log_in config ((was.first ++ line ∷ []) ++ rest)
      one_more rest = ap (log_in config) (sym (append_assoc was.first (line ∷ []) rest))

      -- after a line without an entry
      pub passes : ends_calls line ≡ false → entry_of_line (logged_request_at config) line ≡ Ok None → AreRead takes config reading most own log counts (number + 1) all after start sink
      passes goes is = record {
        first = was.first ++ line ∷ [];
        leaves = leaves_more all left after was.first line was.leaves taken;
        under_way = λ rest.
            subst (λ (whole : Result (List LoggedEntry) FaultyLine). IsUnderWay takes config reading most own log counts (entries_from (logged_request_at config) (number + 1) rest) whole start sink) (one_more rest)
            (subst (λ (left : Result (List LoggedEntry) FaultyLine). IsUnderWay takes config reading most own log counts left (log_in config (was.first ++ line ∷ rest)) start sink)
            (of_log.reads (logged_request_at config) number (line ∷ rest) line rest (Ok None) refl goes is) (was.under_way (line ∷ rest)));
      }

      module _ (entry : Entry) (time_out : TimeOut) (new : S) where
        abbrev wait : MaxWait
        wait = max_wait_of reading.time_outs entry.call time_out

        abbrev ours : Entry
        ours = entry_in_ours config own entry

        abbrev judged : Entry
        judged = polled_entry wait ours

        abbrev place : LogPlace
        place = record { line = number; time_out = time_out; wait = wait; known = known_in (replaced_in config own entry) }

        -- after a line with an entry
        pub goes_on : ends_calls line ≡ false → entry_of_line (logged_request_at config) line ≡ Ok (Some (entry, time_out))
            → IsHanded takes sink (departures_handed most counts.departures place entry ours.call (instead_of config log judged)) new
            → AreRead takes config reading most (own_after config own entry) (log ++ judged ∷ []) (counts_with counts (instead_of config log judged)) (number + 1) all after start new
        goes_on goes is handed = record {
          first = was.first ++ line ∷ [];
          leaves = leaves_more all left after was.first line was.leaves taken;
          under_way = λ rest.
              subst (λ (whole : Result (List LoggedEntry) FaultyLine). IsUnderWay takes config reading most (own_after config own entry) (log ++ judged ∷ []) (counts_with counts (instead_of config log judged)) (entries_from (logged_request_at config) (number + 1) rest) whole start new) (one_more rest)
              (judges takes config reading most own log counts number entry time_out (log_in config (was.first ++ line ∷ rest)) start sink new (entries_from (logged_request_at config) number (line ∷ rest)) (entries_from (logged_request_at config) (number + 1) rest)
              (of_log.reads (logged_request_at config) number (line ∷ rest) line rest (Ok (Some (entry, time_out))) refl goes is) handed (was.under_way (line ∷ rest)));
        }

-- at a line that is faulty or can't be read
pub stops_at : {S : Type 0} (takes : S → LoggedDeparture → S → Type 0) (config : Configuration) (reading : Reading) (most : ℕ) (own : Own) (log : History) (counts : DepartureCounts) (number : ℕ) (all left : KnownLines) (start sink : S)
    → AreRead takes config reading most own log counts number all left start sink → (line : List ℕ) (after : KnownLines) (error : StepError) → IsFaultyStep (logged_request_at config) line error left after
    → IfSome all (IsStoppedAt takes config reading most start sink counts (stopped_at number error))
stops_at takes config reading most own log counts number all left start sink was line after (Fault fault) (taken, goes, is) =
    at_fault takes config reading most own log counts number all left start sink was line after taken fault goes is
stops_at takes config reading most own log counts number all left start sink was line after (Unread error) unknown =
    at_unread takes config reading most own log counts number all left start sink was number error
