-- The call of a row: which rows a call can get.
use Rattle.apex_ports.proofs.Common.{◌≡◌, ℕ, ◌==◌, Bool, true, false, nat_lt, not, if◌then◌else◌, List, [], ◌∷◌, length, Option, Some, None, refl, subst, arith, nat_tests, mode_numbered, Call, Mode, Idle, ColdStart, WarmStart, Normal, Moment, Sample, Configuration, refresh_of_kind, Port, Row, Refused, is_code_no_error, is_cold_start, is_idle, is_no_error, is_normal, NamedPort, is_create, is_source, queuing_named}
use Rattle.apex_ports.proofs.Common.{sampling_named, size_of, depth_of, create_queuing_row, create_sampling_row, id_row, send_row, oldest_row, receive_row, clear_row, write_row, last_row, read_row, status_row, set_mode_row, service_row, row_of, reply_of, Seen, queuing_port, sampling_port}
use Rattle.apex_types.specs.Direction.{number_of}
use Rattle.apex_types.specs.declared.call.Call.TheVariants as call
use Rattle.apex_ports.specs.declared.rows.Refusal.{Refusal}
use Rattle.apex_ports.specs.declared.rows.Refusal.TheVariants as refusal
use Rattle.apex_ports.specs.declared.rows.Row.TheVariants as row
use Rattle.apex_ports.specs.Rows.{code_of}

-- ---- refusals

-- a refusal isn't NO_ERROR
pub is_an_error : (r : Refusal) → is_no_error (code_of r) ≡ false
is_an_error refusal.NotConfigured = refl
is_an_error refusal.AlreadyCreated = refl
is_an_error refusal.SizeDiffers = refl
is_an_error refusal.DepthDiffers = refl
is_an_error refusal.DirectionDiffers = refl
is_an_error refusal.RefreshDiffers = refl
is_an_error refusal.UnknownDiscipline = refl
is_an_error refusal.InNormal = refl
is_an_error refusal.NotCreated = refl
is_an_error refusal.NoSuchPort = refl
is_an_error refusal.EmptyMessage = refl
is_an_error refusal.MessageTooLong = refl
is_an_error refusal.NotSource = refl
is_an_error refusal.NotDestination = refl
is_an_error refusal.QueueFull = refl
is_an_error refusal.QueueEmpty = refl
is_an_error refusal.NeverWritten = refl
is_an_error refusal.UnknownMode = refl
is_an_error refusal.AlreadyNormal = refl
is_an_error refusal.WarmStartInColdStart = refl

-- ---- which rows a call can get

abbrev fits : Call → Row → Bool
fits call row.Idle = true
fits call (Refused refusal) = true
fits call (row.Created id) = is_create call
fits (call.SamplingId name) (row.Identified id) = true
fits (call.QueuingId name) (row.Identified id) = true
fits (call.SendQueuing id message) row.Sent = true
fits (call.ReceiveQueuing id) (row.OldestReceived n) = n == id
fits (call.ClearQueuing id) row.Cleared = true
fits (call.QueuingStatus id) (row.QueuingStatus n) = true
fits (call.WriteSampling id message) row.Written = true
fits (call.ReadSampling id) (row.LastRead n validity) = n == id
fits (call.SamplingStatus id) (row.SamplingStatus n) = true
fits (call.SetMode number) row.ModeSet = true
fits _ _ = false

pub same_number : (n : ℕ) → (n == n) ≡ true
same_number n = grind (arith, nat_tests)

module _ (config : Configuration) (s : Seen) (p : ℕ) (now : Moment) where
  queuing_fits : (of : Call) (named : Option NamedPort) (size depth direction discipline : ℕ) → is_create of ≡ true → fits of (create_queuing_row config s named size depth direction discipline) ≡ true
  queuing_fits of None size depth direction discipline is = refl
  queuing_fits of (Some named) size depth direction discipline is =
      by_tests (s.created named.id) (not (size == size_of config named.port)) (not (depth == depth_of config named.port.channel)) (not (direction == number_of named.port.direction)) (nat_lt 1 discipline) (is_normal s.mode)
    where
      by_tests : (a b c d e f : Bool) → fits of (if a then Refused refusal.AlreadyCreated else if b then Refused refusal.SizeDiffers else if c then Refused refusal.DepthDiffers else if d then Refused refusal.DirectionDiffers else if e then Refused refusal.UnknownDiscipline else if f then Refused refusal.InNormal else row.Created named.id) ≡ true
      by_tests true b c d e f = refl
      by_tests false true c d e f = refl
      by_tests false false true d e f = refl
      by_tests false false false true e f = refl
      by_tests false false false false true f = refl
      by_tests false false false false false true = refl
      by_tests false false false false false false = is

  sampling_fits : (of : Call) (named : Option NamedPort) (size direction refresh : ℕ) → is_create of ≡ true → fits of (create_sampling_row config s named size direction refresh) ≡ true
  sampling_fits of None size direction refresh is = refl
  sampling_fits of (Some named) size direction refresh is =
      by_tests (s.created named.id) (not (size == size_of config named.port)) (not (direction == number_of named.port.direction)) (not (refresh == refresh_of_kind named.port.kind)) (is_normal s.mode)
    where
      by_tests : (a b c d e : Bool) → fits of (if a then Refused refusal.AlreadyCreated else if b then Refused refusal.SizeDiffers else if c then Refused refusal.DirectionDiffers else if d then Refused refusal.RefreshDiffers else if e then Refused refusal.InNormal else row.Created named.id) ≡ true
      by_tests true b c d e = refl
      by_tests false true c d e = refl
      by_tests false false true d e = refl
      by_tests false false false true e = refl
      by_tests false false false false true = refl
      by_tests false false false false false = is

  id_fits : (of : Call) (named : Option NamedPort) → ((id : ℕ) → fits of (row.Identified id) ≡ true) → fits of (id_row s named) ≡ true
  id_fits of None is = refl
  id_fits of (Some named) is = by_test (s.created named.id)
    where
      by_test : (b : Bool) → fits of (if b then row.Identified named.id else Refused refusal.NotCreated) ≡ true
      by_test true = is named.id
      by_test false = refl

  send_fits : (id : ℕ) (port : Option Port) (message : List ℕ) → fits (call.SendQueuing id message) (send_row config s id port message) ≡ true
  send_fits id None message = refl
  send_fits id (Some port) message =
      by_tests (length message == 0) (nat_lt (size_of config port) (length message)) (not (is_source port.direction)) (length (s.waiting id) == depth_of config port.channel)
    where
      by_tests : (a b c d : Bool) → fits (call.SendQueuing id message) (if a then Refused refusal.EmptyMessage else if b then Refused refusal.MessageTooLong else if c then Refused refusal.NotSource else if d then Refused refusal.QueueFull else row.Sent) ≡ true
      by_tests true b c d = refl
      by_tests false true c d = refl
      by_tests false false true d = refl
      by_tests false false false true = refl
      by_tests false false false false = refl

  oldest_fits : (id : ℕ) (waiting : List (List ℕ)) → fits (call.ReceiveQueuing id) (oldest_row id waiting) ≡ true
  oldest_fits id [] = refl
  oldest_fits id (message ∷ rest) = same_number id

  receive_fits : (id : ℕ) (port : Option Port) → fits (call.ReceiveQueuing id) (receive_row s id port) ≡ true
  receive_fits id None = refl
  receive_fits id (Some port) = by_test (is_source port.direction)
    where
      by_test : (b : Bool) → fits (call.ReceiveQueuing id) (if b then Refused refusal.NotDestination else oldest_row id (s.waiting id)) ≡ true
      by_test true = refl
      by_test false = oldest_fits id (s.waiting id)

  clear_fits : (id : ℕ) (port : Option Port) → fits (call.ClearQueuing id) (clear_row port) ≡ true
  clear_fits id None = refl
  clear_fits id (Some port) = by_test (is_source port.direction)
    where
      by_test : (b : Bool) → fits (call.ClearQueuing id) (if b then Refused refusal.NotDestination else row.Cleared) ≡ true
      by_test true = refl
      by_test false = refl

  write_fits : (id : ℕ) (port : Option Port) (message : List ℕ) → fits (call.WriteSampling id message) (write_row config port message) ≡ true
  write_fits id None message = refl
  write_fits id (Some port) message =
      by_tests (length message == 0) (nat_lt (size_of config port) (length message)) (not (is_source port.direction))
    where
      by_tests : (a b c : Bool) → fits (call.WriteSampling id message) (if a then Refused refusal.EmptyMessage else if b then Refused refusal.MessageTooLong else if c then Refused refusal.NotSource else row.Written) ≡ true
      by_tests true b c = refl
      by_tests false true c = refl
      by_tests false false true = refl
      by_tests false false false = refl

  last_fits : (id refresh : ℕ) (sample : Option Sample) → fits (call.ReadSampling id) (last_row now id refresh sample) ≡ true
  last_fits id refresh None = refl
  last_fits id refresh (Some sample) = same_number id

  read_fits : (id : ℕ) (port : Option Port) → fits (call.ReadSampling id) (read_row s now id port) ≡ true
  read_fits id None = refl
  read_fits id (Some port) = by_test (is_source port.direction)
    where
      by_test : (b : Bool) → fits (call.ReadSampling id) (if b then Refused refusal.NotDestination else last_row now id (refresh_of_kind port.kind) (s.sample id)) ≡ true
      by_test true = refl
      by_test false = last_fits id (refresh_of_kind port.kind) (s.sample id)

  status_fits : (of : Call) (status : Row) (port : Option Port) → fits of status ≡ true → fits of (status_row status port) ≡ true
  status_fits of status None is = refl
  status_fits of status (Some port) is = is

  mode_test : (number : ℕ) (b : Bool) (refusal : Refusal) → fits (call.SetMode number) (if b then Refused refusal else row.ModeSet) ≡ true
  mode_test number true refusal = refl
  mode_test number false refusal = refl

  mode_fits : (number : ℕ) (mode : Option Mode) → fits (call.SetMode number) (set_mode_row s.mode mode) ≡ true
  mode_fits number None = refl
  mode_fits number (Some Normal) = mode_test number (is_normal s.mode) refusal.AlreadyNormal
  mode_fits number (Some WarmStart) = mode_test number (is_cold_start s.mode) refusal.WarmStartInColdStart
  mode_fits number (Some Idle) = refl
  mode_fits number (Some ColdStart) = refl

  service_fits : (of : Call) → fits of (service_row config s p now of) ≡ true
  service_fits (call.CreateSampling name size direction refresh) = sampling_fits (call.CreateSampling name size direction refresh) (sampling_named config p name) size direction refresh refl
  service_fits (call.WriteSampling id message) = write_fits id (sampling_port config s p id) message
  service_fits (call.ReadSampling id) = read_fits id (sampling_port config s p id)
  service_fits (call.SamplingId name) = id_fits (call.SamplingId name) (sampling_named config p name) (λ id. refl)
  service_fits (call.SamplingStatus id) = status_fits (call.SamplingStatus id) _ (sampling_port config s p id) refl
  service_fits (call.CreateQueuing name size depth direction discipline) = queuing_fits (call.CreateQueuing name size depth direction discipline) (queuing_named config p name) size depth direction discipline refl
  service_fits (call.SendQueuing id message) = send_fits id (queuing_port config s p id) message
  service_fits (call.ReceiveQueuing id) = receive_fits id (queuing_port config s p id)
  service_fits (call.QueuingId name) = id_fits (call.QueuingId name) (queuing_named config p name) (λ id. refl)
  service_fits (call.QueuingStatus id) = status_fits (call.QueuingStatus id) _ (queuing_port config s p id) refl
  service_fits (call.ClearQueuing id) = clear_fits id (queuing_port config s p id)
  service_fits (call.SetMode number) = mode_fits number (mode_numbered number)

  row_fits : (of : Call) (given : Row) → row_of config s p now of ≡ given → fits of given ≡ true
  row_fits of given is = subst (λ (x : Row). fits of x ≡ true) is (by_idle (is_idle s.mode))
    where
      by_idle : (b : Bool) → fits of (if b then row.Idle else service_row config s p now of) ≡ true
      by_idle true = refl
      by_idle false = service_fits of

  -- ---- the call of a row

  pub creates_only : (of : Call) (id : ℕ) → row_of config s p now of ≡ row.Created id → is_create of ≡ true
  creates_only of id is = row_fits of (row.Created id) is

  -- NO_ERROR to a send or a write is the reply of its own row
  accepted_send : (id : ℕ) (message : List ℕ) (given : Row) → fits (call.SendQueuing id message) given ≡ true → is_code_no_error (reply_of config s p given) ≡ true → given ≡ row.Sent
  accepted_send id message row.Sent fit ok = refl
  accepted_send id message (Refused refusal) fit ok = let no = is_an_error refusal in absurd (cc)
  accepted_send id message _ fit ok = absurd (cc)

  pub sent_by_code : (id : ℕ) (message : List ℕ) → is_code_no_error (reply_of config s p (row_of config s p now (call.SendQueuing id message))) ≡ true → row_of config s p now (call.SendQueuing id message) ≡ row.Sent
  sent_by_code id message ok = accepted_send id message _ (row_fits (call.SendQueuing id message) _ refl) ok

  accepted_write : (id : ℕ) (message : List ℕ) (given : Row) → fits (call.WriteSampling id message) given ≡ true → is_code_no_error (reply_of config s p given) ≡ true → given ≡ row.Written
  accepted_write id message row.Written fit ok = refl
  accepted_write id message (Refused refusal) fit ok = let no = is_an_error refusal in absurd (cc)
  accepted_write id message _ fit ok = absurd (cc)

  pub written_by_code : (id : ℕ) (message : List ℕ) → is_code_no_error (reply_of config s p (row_of config s p now (call.WriteSampling id message))) ≡ true → row_of config s p now (call.WriteSampling id message) ≡ row.Written
  written_by_code id message ok = accepted_write id message _ (row_fits (call.WriteSampling id message) _ refl) ok
