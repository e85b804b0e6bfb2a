-- Calls that are refused before the channel is read.
use Rattle.std.specs.Prelude.{nat_lt}
use Rattle.apex_orders.proofs.Common.{◌≡◌, ◌≢◌, inr, ℕ, ◌==◌, ◌&&◌, not, Bool, true, false, if◌then◌else◌, List, [], ◌∷◌, ◌++◌, length, Option, Some, None, refl, sym, ap, ◌∙◌, Call, Moment, Sample, Configuration, refresh_of_kind, Port, Entry, Row, is_receive, is_clear, message_in, message_sent, message_written, sample_at, History, is_idle, is_code_no_error, is_source, NamedPort, queuing_named, sampling_named}
use Rattle.apex_orders.proofs.Common.{size_of, depth_of, create_queuing_row, create_sampling_row, id_row, send_row, oldest_row, receive_row, last_row, read_row, service_row, row_of, reply_of, reply_to, Seen, seen, queuing_port, sampling_port, leaves_others, LeavesPartition, LeavesChannel, none_or_none, is_early, IsRefusedEarly}
use Rattle.apex_types.specs.declared.call.Call.TheVariants as call
use Rattle.apex_ports.specs.declared.rows.Refusal.TheVariants as refusal
use Rattle.apex_ports.specs.declared.rows.Row.TheVariants as row
use Rattle.apex_ports.proofs.RowCalls.{is_an_error}
use Rattle.apex_orders.proofs.Alike.{partition_left}
use Rattle.apex_orders.proofs.Leaving.{reply_left}
use Rattle.apex_orders.proofs.Swapping.{MaySwap}

module _ (config : Configuration) (p : ℕ) (s : Seen) (waiting : ℕ → List (List ℕ)) (sample : ℕ → Option Sample) where
  -- the same, whatever the channels hold
  abbrev refilled : Seen
  refilled = record { mode = s.mode; created = s.created; last = s.last; waiting = waiting; sample = sample }

  -- if the row is early, both rows are the same
  abbrev Stays : Row → Row → Type 0
  Stays one other = is_early one ≡ true → one ≡ other

  stays_if : (b : Bool) (x y u v : Row) → Stays x u → Stays y v → Stays (if b then x else y) (if b then u else v)
  stays_if true x y u v one two = one
  stays_if false x y u v one two = two

  never_early : (b c : Bool) → Stays (if b then row.Refused refusal.QueueFull else row.Sent) (if c then row.Refused refusal.QueueFull else row.Sent)
  never_early true c early = absurd (cc)
  never_early false c early = absurd (cc)

  sends : (id : ℕ) (port : Option Port) (message : List ℕ) → Stays (send_row config s id port message) (send_row config refilled id port message)
  sends id None message = λ _. refl
  sends id (Some port) message =
      stays_if (length message == 0) _ _ _ _ (λ _. refl)
      (stays_if (nat_lt (size_of config port) (length message)) _ _ _ _ (λ _. refl)
      (stays_if (not (is_source port.direction)) _ _ _ _ (λ _. refl)
      (never_early (length (s.waiting id) == depth_of config port.channel) (length (waiting id) == depth_of config port.channel))))

  oldest : (id : ℕ) (one other : List (List ℕ)) → Stays (oldest_row id one) (oldest_row id other)
  oldest id [] other early = absurd (cc)
  oldest id (message ∷ rest) other early = absurd (cc)

  receives : (id : ℕ) (port : Option Port) → Stays (receive_row s id port) (receive_row refilled id port)
  receives id None = λ _. refl
  receives id (Some port) = stays_if (is_source port.direction) _ _ _ _ (λ _. refl) (oldest id (s.waiting id) (waiting id))

  last_one : (now : Moment) (id refresh : ℕ) (one other : Option Sample) → Stays (last_row now id refresh one) (last_row now id refresh other)
  last_one now id refresh None other early = absurd (cc)
  last_one now id refresh (Some it) other early = absurd (cc)

  reads : (now : Moment) (id : ℕ) (port : Option Port) → Stays (read_row s now id port) (read_row refilled now id port)
  reads now id None = λ _. refl
  reads now id (Some port) = stays_if (is_source port.direction) _ _ _ _ (λ _. refl) (last_one now id (refresh_of_kind port.kind) (s.sample id) (sample id))

  creates_sampling : (named : Option NamedPort) (size direction refresh : ℕ) → create_sampling_row config s named size direction refresh ≡ create_sampling_row config refilled named size direction refresh
  creates_sampling None size direction refresh = refl
  creates_sampling (Some named) size direction refresh = refl

  creates_queuing : (named : Option NamedPort) (size depth direction discipline : ℕ)
      → create_queuing_row config s named size depth direction discipline ≡ create_queuing_row config refilled named size depth direction discipline
  creates_queuing None size depth direction discipline = refl
  creates_queuing (Some named) size depth direction discipline = refl

  identifies : (named : Option NamedPort) → id_row s named ≡ id_row refilled named
  identifies None = refl
  identifies (Some named) = refl

  serves : (now : Moment) (asked : Call) → Stays (service_row config s p now asked) (service_row config refilled p now asked)
  serves now (call.CreateSampling name size direction refresh) early = creates_sampling (sampling_named config p name) size direction refresh
  serves now (call.WriteSampling id message) early = refl
  serves now (call.ReadSampling id) early = reads now id (sampling_port config s p id) early
  serves now (call.SamplingId name) early = identifies (sampling_named config p name)
  serves now (call.SamplingStatus id) early = refl
  serves now (call.CreateQueuing name size depth direction discipline) early = creates_queuing (queuing_named config p name) size depth direction discipline
  serves now (call.SendQueuing id message) early = sends id (queuing_port config s p id) message early
  serves now (call.ReceiveQueuing id) early = receives id (queuing_port config s p id) early
  serves now (call.QueuingId name) early = identifies (queuing_named config p name)
  serves now (call.QueuingStatus id) early = refl
  serves now (call.ClearQueuing id) early = refl
  serves now (call.SetMode number) early = refl

  row_stays : (now : Moment) (asked : Call) → Stays (row_of config s p now asked) (row_of config refilled p now asked)
  row_stays now asked = stays_if (is_idle s.mode) _ _ _ _ (λ _. refl) (serves now asked)

-- ---- replies of early rows

same_early : (config : Configuration) (p : ℕ) (s t : Seen) (r : Row) → is_early r ≡ true → reply_of config s p r ≡ reply_of config t p r
same_early config p s t row.Idle early = refl
same_early config p s t (row.Refused why) early = refl
same_early config p s t _ early = absurd (cc)

no_success : (config : Configuration) (p : ℕ) (s : Seen) (r : Row) → is_early r ≡ true → (is_code_no_error (reply_of config s p r) ≡ false) × (message_in (reply_of config s p r) ≡ None)
no_success config p s row.Idle early = (refl, refl)
no_success config p s (row.Refused why) early = (is_an_error why, refl)
no_success config p s _ early = absurd (cc)

leaves_refused : (config : Configuration) (c : ℕ) (e : Entry) → is_code_no_error e.reply ≡ false → message_in e.reply ≡ None → LeavesChannel config c e
leaves_refused config c e refused none = record {
  accepted = λ i. if refused i then message_sent config c e.partition e.call else None;
  received = (λ i. if is_receive config c e.partition e.call then none i else None) ∙ none_or_none (is_receive config c e.partition e.call);
  cleared = λ i. refused i && is_clear config c e.partition e.call;
  written = λ i. if refused i then sample_at e.at (message_written config c e.partition e.call) else None;
}

-- ---- after another partition's entry

module _ (config : Configuration) (h : History) (x : Entry) (p : ℕ) (left : LeavesPartition p x) (timed : Moment × Call) (early : IsRefusedEarly config h p timed) where
  abbrev then_refilled : Seen
  then_refilled = refilled config p (seen config h p) (seen config (h ++ x ∷ []) p).waiting (seen config (h ++ x ∷ []) p).sample

  seen_refilled : then_refilled ≡ seen config (h ++ x ∷ []) p
  seen_refilled =
      let alike = partition_left p h x left in
      λ i. record {
        mode = sym alike.mode i;
        created = λ id. sym (alike.created id) i;
        last = λ id. sym (alike.last id) i;
        waiting = (seen config (h ++ x ∷ []) p).waiting;
        sample = (seen config (h ++ x ∷ []) p).sample;
      }

  same_row : row_of config (seen config h p) p timed.0 timed.1 ≡ row_of config (seen config (h ++ x ∷ []) p) p timed.0 timed.1
  same_row =
      row_stays config p (seen config h p) (seen config (h ++ x ∷ []) p).waiting (seen config (h ++ x ∷ []) p).sample timed.0 timed.1 early
      ∙ ap (λ (s : Seen). row_of config s p timed.0 timed.1) seen_refilled

  pub still_early : IsRefusedEarly config (h ++ x ∷ []) p timed
  still_early = ap is_early (sym same_row) ∙ early

  pub early_reply : reply_to config (h ++ x ∷ []) p timed.0 timed.1 ≡ reply_to config h p timed.0 timed.1
  early_reply =
      ap (reply_of config (seen config (h ++ x ∷ []) p) p) (sym same_row)
      ∙ same_early config p (seen config (h ++ x ∷ []) p) (seen config h p) (row_of config (seen config h p) p timed.0 timed.1) early

-- an entry that is refused early leaves each channel unchanged
pub leaves_early : (config : Configuration) (h : History) (e : Entry) → e.reply ≡ reply_to config h e.partition e.at e.call → IsRefusedEarly config h e.partition (e.at, e.call) → (c : ℕ) → LeavesChannel config c e
leaves_early config h e is early c =
    let no = no_success config e.partition (seen config h e.partition) (row_of config (seen config h e.partition) e.partition e.at e.call) early in
    leaves_refused config c e (ap is_code_no_error is ∙ no.0) (ap message_in is ∙ no.1)

-- it can be swapped with the entry before it
pub early_may : (config : Configuration) (h : History) (x e : Entry) (other : x.partition ≢ e.partition) → e.reply ≡ reply_to config (h ++ x ∷ []) e.partition e.at e.call
    → IsRefusedEarly config h e.partition (e.at, e.call) → MaySwap config h x e other
early_may config h x e other is early =
    let left = leaves_others x.partition x.at x.call x.reply e.partition (λ same. other (sym same)) in
    let reply = early_reply config h x e.partition left (e.at, e.call) early in
    let leaves = leaves_early config h e (is ∙ reply) early in
    record {
      leaves = λ c. inr (leaves c);
      first = reply_left config h e x.partition (leaves_others e.partition e.at e.call e.reply x.partition other) x.at x.call (λ c on. leaves c);
      second = reply;
    }
