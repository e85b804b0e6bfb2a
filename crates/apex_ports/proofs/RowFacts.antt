-- What the row of a call says about the port that the call names.
use Rattle.apex_ports.proofs.Common.{◌≡◌, ◌≢◌, ℕ, ◌<◌, ◌≤◌, ◌==◌, Bool, true, false, nat_lt, ◌&&◌, not, if◌then◌else◌, List, [], ◌∷◌, length, Option, Some, None, refl, sym, ap, ◌∙◌, subst, arith, nat_tests, mode_numbered, Call, Mode, Moment, NoError, Sample, Configuration, port_of, ports_of, id_named, refresh_of_kind, is_queuing_port, Port, Row, Refused, History, is_code_no_error, is_idle, mode_asked, IsIdentifier}
use Rattle.apex_ports.proofs.Common.{NamedPort, is_create, is_source, is_source_of, is_destination_of, queuing_only, sampling_only, with_id, queuing_named, sampling_named, queuing_of_id, sampling_of_id, is_read, sample_at, size_of, create_queuing_row, create_sampling_row, send_row, oldest_row, receive_row, clear_row, write_row, last_row, read_row, set_mode_row, status_row, service_row, row_of, reply_of, reply_to}
use Rattle.apex_ports.proofs.Common.{queuing_status_reply, sampling_status_reply, Seen, seen, queuing_port, sampling_port}
use Rattle.apex_types.specs.declared.call.Call.TheVariants as call
use Rattle.apex_types.specs.declared.reply.Reply.TheVariants as reply
use Rattle.apex_types.specs.declared.validity.Validity.{Validity}
use Rattle.apex_ports.specs.declared.rows.Refusal.{Refusal}
use Rattle.apex_ports.specs.declared.rows.Refusal.TheVariants as refusal
use Rattle.apex_ports.specs.declared.rows.Row.TheVariants as row
use Rattle.apex_ports.specs.Writes.{Writes}
use Rattle.apex_ports.proofs.Conserved.{queuing_configured, sampling_configured}
use Rattle.apex_ports.proofs.Lookups.{is_identifier}
use Rattle.apex_ports.proofs.RowCalls.{same_number, creates_only}
use Rattle.apex_ports.proofs.Stays.{IsElsewhere, and_false}

-- ---- the port of a row

abbrev accepted : Row → Bool
accepted row.Idle = false
accepted (Refused refusal) = false
accepted _ = true

served : (b : Bool) (x given : Row) → accepted given ≡ true → (if b then row.Idle else x) ≡ given → x ≡ given
served true x given ok is = let no : accepted row.Idle ≡ true = ap accepted is ∙ ok in absurd (cc)
served false x given ok is = is

passed : (b : Bool) (refusal : Refusal) (x given : Row) → accepted given ≡ true → (if b then Refused refusal else x) ≡ given → (b ≡ false) × (x ≡ given)
passed true refusal x given ok is = let no : accepted (Refused refusal) ≡ true = ap accepted is ∙ ok in absurd (cc)
passed false refusal x given ok is = (refl, is)

not_false : (b : Bool) → not b ≡ false → b ≡ true
not_false true is = refl
not_false false is = absurd (cc)

some_wait : (id n : ℕ) (waiting : List (List ℕ)) → oldest_row id waiting ≡ row.OldestReceived n → 0 < length waiting
some_wait id n [] is = absurd (cc)
some_wait id n (message ∷ rest) is = omega arith

some_written : (now : Moment) (id n refresh : ℕ) (validity : Validity) (sample : Option Sample) → last_row now id refresh sample ≡ row.LastRead n validity → (one : Sample) × (sample ≡ Some one)
some_written now id n refresh validity None is = absurd (cc)
some_written now id n refresh validity (Some sample) is = (sample, refl)

-- the end of a channel
pub record IsSourceAt (config : Configuration) (p id : ℕ) (port : Port) : Type 0 where
  pub found : port_of config p id ≡ Some port
  pub source : is_source port.direction ≡ true

pub record IsDestinationAt (config : Configuration) (p id : ℕ) (port : Port) : Type 0 where
  pub found : port_of config p id ≡ Some port
  pub destination : is_source port.direction ≡ false

pub source_of : (config : Configuration) (p id : ℕ) (port q : Port) → IsSourceAt config p id port → Some q ≡ port_of config p id → is_source_of q.channel (port_of config p id) ≡ true
source_of config p id port q at given =
    let same : port ≡ q = let both : Some port ≡ Some q = sym at.found ∙ sym given in cc in
    let source = subst (λ (x : Port). is_source x.direction ≡ true) same at.source in
    subst (λ (o : Option Port). is_source_of q.channel o ≡ true) given (λ i. source i && same_number q.channel i)

pub destination_of : (config : Configuration) (p id : ℕ) (port q : Port) → IsDestinationAt config p id port → Some q ≡ port_of config p id → is_destination_of q.channel (port_of config p id) ≡ true
destination_of config p id port q at given =
    let same : port ≡ q = let both : Some port ≡ Some q = sym at.found ∙ sym given in cc in
    let destination = subst (λ (x : Port). is_source x.direction ≡ false) same at.destination in
    subst (λ (o : Option Port). is_destination_of q.channel o ≡ true) given (λ i. not (destination i) && same_number q.channel i)

module _ (config : Configuration) (s : Seen) (p : ℕ) (now : Moment) where
  pub sent_at : (id : ℕ) (message : List ℕ) → row_of config s p now (call.SendQueuing id message) ≡ row.Sent → (port : Port) × IsSourceAt config p id port × (length message ≤ size_of config port)
  sent_at id message is = by_port (queuing_port config s p id) refl (served (is_idle s.mode) (service_row config s p now (call.SendQueuing id message)) row.Sent refl is)
    where
      by_port : (port : Option Port) → queuing_port config s p id ≡ port → send_row config s id port message ≡ row.Sent → (q : Port) × IsSourceAt config p id q × (length message ≤ size_of config q)
      by_port None found given = absurd (cc)
      by_port (Some q) found given =
          let tests = by_tests _ (nat_lt (size_of config q) (length message)) _ _ given in
          let short = tests.0 in
          (q, record { found = queuing_configured (s.created id) (port_of config p id) q found; source = not_false (is_source q.direction) tests.1 }, grind (arith, nat_tests))
        where
          by_tests : (a b c d : Bool) → ◌≡◌ {A = Row} (if a then Refused refusal.EmptyMessage else if b then Refused refusal.MessageTooLong else if c then Refused refusal.NotSource else if d then Refused refusal.QueueFull else row.Sent) row.Sent → (b ≡ false) × (c ≡ false)
          by_tests true b c d h = absurd (cc)
          by_tests false true c d h = absurd (cc)
          by_tests false false true d h = absurd (cc)
          by_tests false false false true h = absurd (cc)
          by_tests false false false false h = (refl, refl)

  pub written_at : (id : ℕ) (message : List ℕ) → row_of config s p now (call.WriteSampling id message) ≡ row.Written → (port : Port) × IsSourceAt config p id port × (length message ≤ size_of config port)
  written_at id message is = by_port (sampling_port config s p id) refl (served (is_idle s.mode) (service_row config s p now (call.WriteSampling id message)) row.Written refl is)
    where
      by_port : (port : Option Port) → sampling_port config s p id ≡ port → write_row config port message ≡ row.Written → (q : Port) × IsSourceAt config p id q × (length message ≤ size_of config q)
      by_port None found given = absurd (cc)
      by_port (Some q) found given =
          let tests = by_tests _ (nat_lt (size_of config q) (length message)) _ given in
          let short = tests.0 in
          (q, record { found = (sampling_configured (s.created id) (port_of config p id) q found).0; source = not_false (is_source q.direction) tests.1 }, grind (arith, nat_tests))
        where
          by_tests : (a b c : Bool) → ◌≡◌ {A = Row} (if a then Refused refusal.EmptyMessage else if b then Refused refusal.MessageTooLong else if c then Refused refusal.NotSource else row.Written) row.Written → (b ≡ false) × (c ≡ false)
          by_tests true b c h = absurd (cc)
          by_tests false true c h = absurd (cc)
          by_tests false false true h = absurd (cc)
          by_tests false false false h = (refl, refl)

  pub received_at : (id n : ℕ) → row_of config s p now (call.ReceiveQueuing id) ≡ row.OldestReceived n → (port : Port) × IsDestinationAt config p id port × (0 < length (s.waiting id))
  received_at id n is = by_port (queuing_port config s p id) refl (served (is_idle s.mode) (service_row config s p now (call.ReceiveQueuing id)) (row.OldestReceived n) refl is)
    where
      by_port : (port : Option Port) → queuing_port config s p id ≡ port → receive_row s id port ≡ row.OldestReceived n → (q : Port) × IsDestinationAt config p id q × (0 < length (s.waiting id))
      by_port None found given = absurd (cc)
      by_port (Some q) found given =
          let one = passed (is_source q.direction) refusal.NotDestination (oldest_row id (s.waiting id)) (row.OldestReceived n) refl given in
          (q, record { found = queuing_configured (s.created id) (port_of config p id) q found; destination = one.0 }, some_wait id n (s.waiting id) one.1)

  pub cleared_at : (id : ℕ) → row_of config s p now (call.ClearQueuing id) ≡ row.Cleared → (port : Port) × IsDestinationAt config p id port
  cleared_at id is = by_port (queuing_port config s p id) refl (served (is_idle s.mode) (service_row config s p now (call.ClearQueuing id)) row.Cleared refl is)
    where
      by_port : (port : Option Port) → queuing_port config s p id ≡ port → clear_row port ≡ row.Cleared → (q : Port) × IsDestinationAt config p id q
      by_port None found given = absurd (cc)
      by_port (Some q) found given =
          let one = passed (is_source q.direction) refusal.NotDestination row.Cleared row.Cleared refl given in
          (q, record { found = queuing_configured (s.created id) (port_of config p id) q found; destination = one.0 })

  -- what a read finds
  pub record IsReadAt (id : ℕ) (port : Port) (sample : Sample) : Type 0 where
    pub created : s.created id ≡ true
    pub found : port_of config p id ≡ Some port
    pub shown : s.sample id ≡ Some sample

  is_created_port : (b : Bool) (port : Option Port) (q : Port) → sampling_only (if b then port else None) ≡ Some q → b ≡ true
  is_created_port true port q is = refl
  is_created_port false port q is = absurd (cc)

  pub read_at : (id n : ℕ) (validity : Validity) → row_of config s p now (call.ReadSampling id) ≡ row.LastRead n validity → (port : Port) × (sample : Sample) × IsReadAt id port sample
  read_at id n validity is = by_port (sampling_port config s p id) refl (served (is_idle s.mode) (service_row config s p now (call.ReadSampling id)) (row.LastRead n validity) refl is)
    where
      by_port : (port : Option Port) → sampling_port config s p id ≡ port → read_row s now id port ≡ row.LastRead n validity → (q : Port) × (sample : Sample) × IsReadAt id q sample
      by_port None found given = absurd (cc)
      by_port (Some q) found given =
          let one = passed (is_source q.direction) refusal.NotDestination (last_row now id (refresh_of_kind q.kind) (s.sample id)) (row.LastRead n validity) refl given in
          let written = some_written now id n (refresh_of_kind q.kind) validity (s.sample id) one.1 in (
            q,
            written.0,
            record {
              created = is_created_port (s.created id) (port_of config p id) q found;
              found = (sampling_configured (s.created id) (port_of config p id) q found).0;
              shown = written.1;
            },
          )

  -- the mode that is set
  pub mode_at : (number : ℕ) → row_of config s p now (call.SetMode number) ≡ row.ModeSet → (mode : Mode) × (mode_numbered number ≡ Some mode)
  mode_at number is = by_mode (mode_numbered number) (served (is_idle s.mode) (service_row config s p now (call.SetMode number)) row.ModeSet refl is)
    where
      by_mode : (mode : Option Mode) → set_mode_row s.mode mode ≡ row.ModeSet → (one : Mode) × (mode ≡ Some one)
      by_mode None given = absurd (cc)
      by_mode (Some mode) given = (mode, refl)

  -- ---- statuses

  pub queuing_status_given : (id : ℕ) → is_idle s.mode ≡ false → reply_of config s p (row_of config s p now (call.QueuingStatus id)) ≡ queuing_status_reply config s id (queuing_port config s p id)
  queuing_status_given id active = rw active (by_port (queuing_port config s p id) refl)
    where
      by_port : (port : Option Port) → queuing_port config s p id ≡ port → reply_of config s p (status_row (row.QueuingStatus id) port) ≡ queuing_status_reply config s id port
      by_port None found = refl
      by_port (Some q) found = ap (queuing_status_reply config s id) found

  pub sampling_status_given : (id : ℕ) → is_idle s.mode ≡ false → reply_of config s p (row_of config s p now (call.SamplingStatus id)) ≡ sampling_status_reply config s id (sampling_port config s p id)
  sampling_status_given id active = rw active (by_port (sampling_port config s p id) refl)
    where
      by_port : (port : Option Port) → sampling_port config s p id ≡ port → reply_of config s p (status_row (row.SamplingStatus id) port) ≡ sampling_status_reply config s id port
      by_port None found = refl
      by_port (Some q) found = ap (sampling_status_reply config s id) found

  -- ---- creation

  named_queuing : (id : Option ℕ) (named : NamedPort) → queuing_of_id config p id ≡ Some named → IsIdentifier (ports_of config p) named.id
  named_queuing None named is = absurd (cc)
  named_queuing (Some id) named is = by_port (port_of config p id) refl is
    where
      by_port : (port : Option Port) → port_of config p id ≡ port → with_id id (queuing_only port) ≡ Some named → IsIdentifier (ports_of config p) named.id
      by_port None found given = absurd (cc)
      by_port (Some q) found given = by_kind (is_queuing_port q.kind) given
        where
          by_kind : (b : Bool) → with_id id (if b then Some q else None) ≡ Some named → IsIdentifier (ports_of config p) named.id
          by_kind true h = let same : id ≡ named.id = cc in subst (IsIdentifier (ports_of config p)) same (is_identifier config p id q found)
          by_kind false h = absurd (cc)

  named_sampling : (id : Option ℕ) (named : NamedPort) → sampling_of_id config p id ≡ Some named → IsIdentifier (ports_of config p) named.id
  named_sampling None named is = absurd (cc)
  named_sampling (Some id) named is = by_port (port_of config p id) refl is
    where
      by_port : (port : Option Port) → port_of config p id ≡ port → with_id id (sampling_only port) ≡ Some named → IsIdentifier (ports_of config p) named.id
      by_port None found given = absurd (cc)
      by_port (Some q) found given = by_kind (is_queuing_port q.kind) given
        where
          by_kind : (b : Bool) → with_id id (if b then None else Some q) ≡ Some named → IsIdentifier (ports_of config p) named.id
          by_kind true h = absurd (cc)
          by_kind false h = let same : id ≡ named.id = cc in subst (IsIdentifier (ports_of config p)) same (is_identifier config p id q found)

  created_queuing : (id : ℕ) (named : Option NamedPort) (size depth direction discipline : ℕ) → create_queuing_row config s named size depth direction discipline ≡ row.Created id → (one : NamedPort) × (named ≡ Some one) × (one.id ≡ id)
  created_queuing id None size depth direction discipline given = absurd (cc)
  created_queuing id (Some named) size depth direction discipline given = (named, refl, by_tests _ _ _ _ _ _ given)
    where
      by_tests : (a b c d e f : Bool) → ◌≡◌ {A = Row} (if a then Refused refusal.AlreadyCreated else if b then Refused refusal.SizeDiffers else if c then Refused refusal.DepthDiffers else if d then Refused refusal.DirectionDiffers else if e then Refused refusal.UnknownDiscipline else if f then Refused refusal.InNormal else row.Created named.id) (row.Created id) → named.id ≡ id
      by_tests true b c d e f h = absurd (cc)
      by_tests false true c d e f h = absurd (cc)
      by_tests false false true d e f h = absurd (cc)
      by_tests false false false true e f h = absurd (cc)
      by_tests false false false false true f h = absurd (cc)
      by_tests false false false false false true h = absurd (cc)
      by_tests false false false false false false h = cc

  created_sampling : (id : ℕ) (named : Option NamedPort) (size direction refresh : ℕ) → create_sampling_row config s named size direction refresh ≡ row.Created id → (one : NamedPort) × (named ≡ Some one) × (one.id ≡ id)
  created_sampling id None size direction refresh given = absurd (cc)
  created_sampling id (Some named) size direction refresh given = (named, refl, by_tests _ _ _ _ _ given)
    where
      by_tests : (a b c d e : Bool) → ◌≡◌ {A = Row} (if a then Refused refusal.AlreadyCreated else if b then Refused refusal.SizeDiffers else if c then Refused refusal.DirectionDiffers else if d then Refused refusal.RefreshDiffers else if e then Refused refusal.InNormal else row.Created named.id) (row.Created id) → named.id ≡ id
      by_tests true b c d e h = absurd (cc)
      by_tests false true c d e h = absurd (cc)
      by_tests false false true d e h = absurd (cc)
      by_tests false false false true e h = absurd (cc)
      by_tests false false false false true h = absurd (cc)
      by_tests false false false false false h = cc

  -- what holds for a call that creates a port
  pub record IsCreation (of : Call) (id : ℕ) : Type 0 where
    pub creates : is_create of ≡ true
    pub no_mode : mode_asked of ≡ None
    pub no_read : (n : ℕ) → is_read n of ≡ false
    pub elsewhere : (c : ℕ) → IsElsewhere config c p of
    pub identifier : IsIdentifier (ports_of config p) id

  pub created_at : (of : Call) (id : ℕ) → row_of config s p now of ≡ row.Created id → IsCreation of id
  created_at of id is = by_call of (creates_only config s p now of id is) (served (is_idle s.mode) (service_row config s p now of) (row.Created id) refl is)
    where
      by_call : (of : Call) → is_create of ≡ true → service_row config s p now of ≡ row.Created id → IsCreation of id
      by_call (call.CreateQueuing name size depth direction discipline) creates given =
          let made = created_queuing id (queuing_named config p name) size depth direction discipline given in
          record {
            creates = refl;
            no_mode = refl;
            no_read = λ n. refl;
            elsewhere = λ c. record { sends = refl; receives = refl; clears = refl; writes = refl };
            identifier = subst (IsIdentifier (ports_of config p)) made.2 (named_queuing (id_named config p name) made.0 made.1);
          }
      by_call (call.CreateSampling name size direction refresh) creates given =
          let made = created_sampling id (sampling_named config p name) size direction refresh given in
          record {
            creates = refl;
            no_mode = refl;
            no_read = λ n. refl;
            elsewhere = λ c. record { sends = refl; receives = refl; clears = refl; writes = refl };
            identifier = subst (IsIdentifier (ports_of config p)) made.2 (named_sampling (id_named config p name) made.0 made.1);
          }
      by_call _ creates given = absurd (cc)

-- an accepted write writes into the channel of its port, and into no other
pub writes_there : (config : Configuration) (h : History) (p id : ℕ) (m : List ℕ) (q : Port) → port_of config p id ≡ Some q → is_idle (seen config h p).mode ≡ false
    → write_row config (sampling_port config (seen config h p) p id) m ≡ row.Written → Writes config h p (call.WriteSampling id m) q.channel m
writes_there config h p id m q found active decided = record {
  there = λ at i. if is_code_no_error (replied at i) then sample_at at (if source i then Some m else None) else None;
  elsewhere = λ at other apart i. if is_code_no_error (replied at i) then sample_at at (if off other apart i then Some m else None) else None;
}
  where
    s : Seen
    s = seen config h p

    given : (at : Moment) → row_of config s p at (call.WriteSampling id m) ≡ row.Written
    given at = rw active decided

    replied : (at : Moment) → reply_to config h p at (call.WriteSampling id m) ≡ reply.Code NoError
    replied at = ap (reply_of config s p) (given at)

    source : is_source_of q.channel (port_of config p id) ≡ true
    source = let at : Moment = record { 0 = 0 } in let there = written_at config s p at id m (given at) in source_of config p id there.0 q there.1 (sym found)

    other_channel : (other : ℕ) → other ≢ q.channel → (q.channel == other) ≡ false
    other_channel other apart = grind (arith, nat_tests)

    off : (other : ℕ) → other ≢ q.channel → is_source_of other (port_of config p id) ≡ false
    off other apart = ap (is_source_of other) found ∙ ((λ i. is_source q.direction && other_channel other apart i) ∙ and_false (is_source q.direction))
