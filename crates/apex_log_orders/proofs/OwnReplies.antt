-- Calls whose replies the other partitions don't affect.
use Rattle.apex_log_orders.proofs.Common.{◌≡◌, ℕ, ◌==◌, nat_lt, not, Bool, true, false, if◌then◌else◌, List, length, Option, Some, None, refl, ap, ◌∙◌, Call, Idle, ColdStart, WarmStart, Normal, Moment, Sample, Configuration, refresh_of_kind, Port, Row, AlreadyCreated, SizeDiffers, DepthDiffers, DirectionDiffers, RefreshDiffers, UnknownDiscipline, InNormal, NotCreated, EmptyMessage, MessageTooLong, NotSource}
use Rattle.apex_log_orders.proofs.Common.{NotDestination, AlreadyNormal, WarmStartInColdStart, is_idle, is_normal, is_cold_start, is_source, NamedPort, queuing_named, sampling_named, size_of, depth_of, create_queuing_row, create_sampling_row, id_row, write_row, clear_row, status_row, set_mode_row, service_row, row_of, reply_of, Seen, sampling_port, queuing_port, is_own}
use Rattle.apex_types.specs.Direction.{number_of}
use Rattle.apex_types.specs.Mode.{mode_numbered}
use Rattle.apex_types.specs.declared.call.Call.TheVariants as call
use Rattle.apex_types.specs.declared.mode.Mode.{Mode}
use Rattle.apex_types.specs.declared.validity.Validity.{Validity}
use Rattle.apex_ports.specs.declared.rows.Row.TheVariants as row

-- the row's reply depends on no channel
abbrev is_plain : Row → Bool
is_plain (row.OldestReceived id) = false
is_plain (row.QueuingStatus id) = false
is_plain (row.LastRead id validity) = false
is_plain _ = true

plain_if : (b : Bool) (x y : Row) → is_plain x ≡ true → is_plain y ≡ true → is_plain (if b then x else y) ≡ true
plain_if true x y plain other = plain
plain_if false x y plain other = other

module _ (config : Configuration) (seen : Seen) where
  plain_create_sampling : (named : Option NamedPort) (size direction refresh : ℕ) → is_plain (create_sampling_row config seen named size direction refresh) ≡ true
  plain_create_sampling None size direction refresh = refl
  plain_create_sampling (Some named) size direction refresh =
      by_tests (seen.created named.id) (not (size == size_of config named.port)) (not (direction == number_of named.port.direction)) (not (refresh == refresh_of_kind named.port.kind)) (is_normal seen.mode)
    where
      by_tests : (a b c d e : Bool) → is_plain (if a then row.Refused AlreadyCreated else if b then row.Refused SizeDiffers else if c then row.Refused DirectionDiffers else if d then row.Refused RefreshDiffers else if e then row.Refused InNormal else row.Created named.id) ≡ true
      by_tests true b c d e = refl
      by_tests false true c d e = refl
      by_tests false false true d e = refl
      by_tests false false false true e = refl
      by_tests false false false false true = refl
      by_tests false false false false false = refl

  plain_create_queuing : (named : Option NamedPort) (size depth direction discipline : ℕ) → is_plain (create_queuing_row config seen named size depth direction discipline) ≡ true
  plain_create_queuing None size depth direction discipline = refl
  plain_create_queuing (Some named) size depth direction discipline =
      by_tests (seen.created named.id) (not (size == size_of config named.port)) (not (depth == depth_of config named.port.channel)) (not (direction == number_of named.port.direction)) (nat_lt 1 discipline) (is_normal seen.mode)
    where
      by_tests : (a b c d e f : Bool) → is_plain (if a then row.Refused AlreadyCreated else if b then row.Refused SizeDiffers else if c then row.Refused DepthDiffers else if d then row.Refused DirectionDiffers else if e then row.Refused UnknownDiscipline else if f then row.Refused InNormal else row.Created named.id) ≡ true
      by_tests true b c d e f = refl
      by_tests false true c d e f = refl
      by_tests false false true d e f = refl
      by_tests false false false true e f = refl
      by_tests false false false false true f = refl
      by_tests false false false false false true = refl
      by_tests false false false false false false = refl

  plain_id : (named : Option NamedPort) → is_plain (id_row seen named) ≡ true
  plain_id None = refl
  plain_id (Some named) = plain_if (seen.created named.id) (row.Identified named.id) (row.Refused NotCreated) refl refl

  plain_write : (port : Option Port) (message : List ℕ) → is_plain (write_row config port message) ≡ true
  plain_write None message = refl
  plain_write (Some port) message =
      by_tests (length message == 0) (nat_lt (size_of config port) (length message)) (not (is_source port.direction))
    where
      by_tests : (a b c : Bool) → is_plain (if a then row.Refused EmptyMessage else if b then row.Refused MessageTooLong else if c then row.Refused NotSource else row.Written) ≡ true
      by_tests true b c = refl
      by_tests false true c = refl
      by_tests false false true = refl
      by_tests false false false = refl

  plain_clear : (port : Option Port) → is_plain (clear_row port) ≡ true
  plain_clear None = refl
  plain_clear (Some port) = plain_if (is_source port.direction) (row.Refused NotDestination) row.Cleared refl refl

  plain_status : (port : Option Port) (id : ℕ) → is_plain (status_row (row.SamplingStatus id) port) ≡ true
  plain_status None id = refl
  plain_status (Some port) id = refl

  plain_mode : (present : Mode) (wanted : Option Mode) → is_plain (set_mode_row present wanted) ≡ true
  plain_mode present None = refl
  plain_mode present (Some Normal) = plain_if (is_normal present) (row.Refused AlreadyNormal) row.ModeSet refl refl
  plain_mode present (Some WarmStart) = plain_if (is_cold_start present) (row.Refused WarmStartInColdStart) row.ModeSet refl refl
  plain_mode present (Some ColdStart) = refl
  plain_mode present (Some Idle) = refl

  plain_service : (p : ℕ) (now : Moment) (asked : Call) → is_own asked ≡ true → is_plain (service_row config seen p now asked) ≡ true
  plain_service p now (call.CreateSampling name size direction refresh) own = plain_create_sampling (sampling_named config p name) size direction refresh
  plain_service p now (call.CreateQueuing name size depth direction discipline) own = plain_create_queuing (queuing_named config p name) size depth direction discipline
  plain_service p now (call.SamplingId name) own = plain_id (sampling_named config p name)
  plain_service p now (call.QueuingId name) own = plain_id (queuing_named config p name)
  plain_service p now (call.WriteSampling id message) own = plain_write (sampling_port config seen p id) message
  plain_service p now (call.ClearQueuing id) own = plain_clear (queuing_port config seen p id)
  plain_service p now (call.SamplingStatus id) own = plain_status (sampling_port config seen p id) id
  plain_service p now (call.SetMode number) own = plain_mode seen.mode (mode_numbered number)
  plain_service p now _ own = absurd cc

-- seen with the waiting messages and samples of another moment
module _ (config : Configuration) (p : ℕ) (mode : Mode) (created : ℕ → Bool) (last : ℕ → Validity) (waiting other_waiting : ℕ → List (List ℕ)) (sample other_sample : ℕ → Option Sample) where
  abbrev one : Seen
  one = record { mode = mode; created = created; last = last; waiting = waiting; sample = sample }

  abbrev other : Seen
  other = record { mode = mode; created = created; last = last; waiting = other_waiting; sample = other_sample }

  plain_reply : (r : Row) → is_plain r ≡ true → reply_of config one p r ≡ reply_of config other p r
  plain_reply (row.OldestReceived id) plain = absurd cc
  plain_reply (row.QueuingStatus id) plain = absurd cc
  plain_reply (row.LastRead id validity) plain = absurd cc
  plain_reply _ plain = refl

  -- the row is the same, since no check of these calls reads a channel
  same_row : (now : Moment) (asked : Call) → is_own asked ≡ true → row_of config one p now asked ≡ row_of config other p now asked
  same_row now (call.SendQueuing id message) own = absurd cc
  same_row now (call.ReceiveQueuing id) own = absurd cc
  same_row now (call.QueuingStatus id) own = absurd cc
  same_row now (call.ReadSampling id) own = absurd cc
  same_row now _ own = refl

  pub own_reply : (now : Moment) (asked : Call) → is_own asked ≡ true → reply_of config one p (row_of config one p now asked) ≡ reply_of config other p (row_of config other p now asked)
  own_reply now asked own =
      plain_reply (row_of config one p now asked) (plain_if (is_idle mode) row.Idle (service_row config one p now asked) refl (plain_service config one p now asked own))
      ∙ ap (λ (r : Row). reply_of config other p r) (same_row now asked own)
