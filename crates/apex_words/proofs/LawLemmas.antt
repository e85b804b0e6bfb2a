-- Each refusal of a call is a check that its service lists, by the cases of its row.
use Rattle.std.proofs.Common.{ℕ, Bool, true, false, ◌==◌, nat_lt, not, if◌then◌else◌, List, [], ◌∷◌, length, Option, Some, None, refl, arith, Contains}
use Rattle.apex_types.specs.declared.call.Call.TheVariants as call
use Rattle.apex_types.specs.declared.mode.Mode.{Mode}
use Rattle.apex_types.specs.declared.mode.Mode.TheVariants as mode
use Rattle.apex_types.specs.Mode.{mode_numbered}
use Rattle.apex_types.specs.declared.moment.Moment.{Moment}
use Rattle.apex_types.specs.declared.sample.Sample.{Sample}
use Rattle.apex_types.specs.Direction.{number_of}
use Rattle.apex_module.specs.Configuration.{Configuration, refresh_of_kind}
use Rattle.apex_module.specs.declared.port.Port.{Port}
use Rattle.apex_ports.specs.Modes.{is_normal, is_cold_start}
use Rattle.apex_ports.specs.ReplyTable.{size_of, depth_of, create_queuing_row, create_sampling_row, id_row, send_row, oldest_row, receive_row, clear_row, write_row, last_row, read_row, status_row, set_mode_row}
use Rattle.apex_ports.specs.Ports.{is_source, NamedPort, queuing_named, sampling_named}
use Rattle.apex_ports.specs.Seen.{Seen, queuing_port, sampling_port}
use Rattle.apex_ports.specs.declared.rows.Row.{Row}
use Rattle.apex_ports.specs.declared.rows.Row.TheVariants as row
use Rattle.apex_ports.specs.declared.rows.Row.TheVariants.{Refused}
use Rattle.apex_ports.specs.declared.rows.Refusal.{Refusal}
use Rattle.apex_ports.specs.declared.rows.Refusal.TheVariants.{AlreadyCreated, SizeDiffers, DepthDiffers, DirectionDiffers, RefreshDiffers, UnknownDiscipline, InNormal, NotCreated, EmptyMessage, MessageTooLong, NotSource, NotDestination, QueueFull, AlreadyNormal, WarmStartInColdStart}
use Rattle.apex_texts.specs.declared.service.Service.{Service}
use Rattle.apex_texts.specs.declared.service.Service.TheVariants as service
use Rattle.apex_words.specs.Services.{refusals_of}
use Rattle.apex_words.specs.Law.{IsRowOf, RefusalsAreListed}

-- one more check before the others
first : (service : Service) (refusal : Refusal) (rest : Row) (test : Bool) → Contains (refusals_of service) refusal → IsRowOf service rest → IsRowOf service (if test then Refused refusal else rest)
first service refusal rest true is others = is
first service refusal rest false is others = others

-- a check that comes last
last : (service : Service) (row : Row) (refusal : Refusal) (test : Bool) → IsRowOf service row → Contains (refusals_of service) refusal → IsRowOf service (if test then row else Refused refusal)
last service row refusal true is others = is
last service row refusal false is others = others

create_queuing_listed : (config : Configuration) (seen : Seen) (named : Option NamedPort) (size depth direction discipline : ℕ)
    → IsRowOf service.CreateQueuing (create_queuing_row config seen named size depth direction discipline)
create_queuing_listed config seen None size depth direction discipline = (0, omega arith, refl)
create_queuing_listed config seen (Some named) size depth direction discipline =
    first service.CreateQueuing AlreadyCreated _ (seen.created named.id) (1, omega arith, refl)
    (first service.CreateQueuing SizeDiffers _ (not (size == size_of config named.port)) (2, omega arith, refl)
    (first service.CreateQueuing DepthDiffers _ (not (depth == depth_of config named.port.channel)) (3, omega arith, refl)
    (first service.CreateQueuing DirectionDiffers _ (not (direction == number_of named.port.direction)) (4, omega arith, refl)
    (first service.CreateQueuing UnknownDiscipline _ (nat_lt 1 discipline) (5, omega arith, refl)
    (first service.CreateQueuing InNormal _ (is_normal seen.mode) (6, omega arith, refl) tt)))))

create_sampling_listed : (config : Configuration) (seen : Seen) (named : Option NamedPort) (size direction refresh : ℕ)
    → IsRowOf service.CreateSampling (create_sampling_row config seen named size direction refresh)
create_sampling_listed config seen None size direction refresh = (0, omega arith, refl)
create_sampling_listed config seen (Some named) size direction refresh =
    first service.CreateSampling AlreadyCreated _ (seen.created named.id) (1, omega arith, refl)
    (first service.CreateSampling SizeDiffers _ (not (size == size_of config named.port)) (2, omega arith, refl)
    (first service.CreateSampling DirectionDiffers _ (not (direction == number_of named.port.direction)) (3, omega arith, refl)
    (first service.CreateSampling RefreshDiffers _ (not (refresh == refresh_of_kind named.port.kind)) (4, omega arith, refl)
    (first service.CreateSampling InNormal _ (is_normal seen.mode) (5, omega arith, refl) tt))))

queuing_id_listed : (seen : Seen) (named : Option NamedPort) → IsRowOf service.QueuingId (id_row seen named)
queuing_id_listed seen None = (0, omega arith, refl)
queuing_id_listed seen (Some named) = last service.QueuingId (row.Identified named.id) NotCreated (seen.created named.id) tt (0, omega arith, refl)

sampling_id_listed : (seen : Seen) (named : Option NamedPort) → IsRowOf service.SamplingId (id_row seen named)
sampling_id_listed seen None = (0, omega arith, refl)
sampling_id_listed seen (Some named) = last service.SamplingId (row.Identified named.id) NotCreated (seen.created named.id) tt (0, omega arith, refl)

send_listed : (config : Configuration) (seen : Seen) (id : ℕ) (found : Option Port) (message : List ℕ) → IsRowOf service.SendQueuing (send_row config seen id found message)
send_listed config seen id None message = (0, omega arith, refl)
send_listed config seen id (Some port) message =
    first service.SendQueuing EmptyMessage _ (length message == 0) (1, omega arith, refl)
    (first service.SendQueuing MessageTooLong _ (nat_lt (size_of config port) (length message)) (2, omega arith, refl)
    (first service.SendQueuing NotSource _ (not (is_source port.direction)) (3, omega arith, refl)
    (first service.SendQueuing QueueFull _ (length (seen.waiting id) == depth_of config port.channel) (4, omega arith, refl) tt)))

oldest_listed : (id : ℕ) (waiting : List (List ℕ)) → IsRowOf service.ReceiveQueuing (oldest_row id waiting)
oldest_listed id [] = (2, omega arith, refl)
oldest_listed id (message ∷ rest) = tt

receive_listed : (seen : Seen) (id : ℕ) (found : Option Port) → IsRowOf service.ReceiveQueuing (receive_row seen id found)
receive_listed seen id None = (0, omega arith, refl)
receive_listed seen id (Some port) = first service.ReceiveQueuing NotDestination _ (is_source port.direction) (1, omega arith, refl) (oldest_listed id (seen.waiting id))

clear_listed : (found : Option Port) → IsRowOf service.ClearQueuing (clear_row found)
clear_listed None = (0, omega arith, refl)
clear_listed (Some port) = first service.ClearQueuing NotDestination _ (is_source port.direction) (1, omega arith, refl) tt

write_listed : (config : Configuration) (found : Option Port) (message : List ℕ) → IsRowOf service.WriteSampling (write_row config found message)
write_listed config None message = (0, omega arith, refl)
write_listed config (Some port) message =
    first service.WriteSampling EmptyMessage _ (length message == 0) (1, omega arith, refl)
    (first service.WriteSampling MessageTooLong _ (nat_lt (size_of config port) (length message)) (2, omega arith, refl)
    (first service.WriteSampling NotSource _ (not (is_source port.direction)) (3, omega arith, refl) tt))

last_listed : (now : Moment) (id refresh : ℕ) (sample : Option Sample) → IsRowOf service.ReadSampling (last_row now id refresh sample)
last_listed now id refresh None = (2, omega arith, refl)
last_listed now id refresh (Some sample) = tt

read_listed : (seen : Seen) (now : Moment) (id : ℕ) (found : Option Port) → IsRowOf service.ReadSampling (read_row seen now id found)
read_listed seen now id None = (0, omega arith, refl)
read_listed seen now id (Some port) = first service.ReadSampling NotDestination _ (is_source port.direction) (1, omega arith, refl) (last_listed now id _ (seen.sample id))

queuing_status_listed : (id : ℕ) (found : Option Port) → IsRowOf service.QueuingStatus (status_row (row.QueuingStatus id) found)
queuing_status_listed id None = (0, omega arith, refl)
queuing_status_listed id (Some port) = tt

sampling_status_listed : (id : ℕ) (found : Option Port) → IsRowOf service.SamplingStatus (status_row (row.SamplingStatus id) found)
sampling_status_listed id None = (0, omega arith, refl)
sampling_status_listed id (Some port) = tt

set_mode_listed : (present : Mode) (asked : Option Mode) → IsRowOf service.SetMode (set_mode_row present asked)
set_mode_listed present None = (0, omega arith, refl)
set_mode_listed present (Some mode.Normal) = first service.SetMode AlreadyNormal _ (is_normal present) (1, omega arith, refl) tt
set_mode_listed present (Some mode.WarmStart) = first service.SetMode WarmStartInColdStart _ (is_cold_start present) (2, omega arith, refl) tt
set_mode_listed present (Some mode.Idle) = tt
set_mode_listed present (Some mode.ColdStart) = tt

pub refusals_listed : RefusalsAreListed
refusals_listed config seen p now (call.CreateSampling name size direction refresh) = create_sampling_listed config seen (sampling_named config p name) size direction refresh
refusals_listed config seen p now (call.WriteSampling id message) = write_listed config (sampling_port config seen p id) message
refusals_listed config seen p now (call.ReadSampling id) = read_listed seen now id (sampling_port config seen p id)
refusals_listed config seen p now (call.SamplingId name) = sampling_id_listed seen (sampling_named config p name)
refusals_listed config seen p now (call.SamplingStatus id) = sampling_status_listed id (sampling_port config seen p id)
refusals_listed config seen p now (call.CreateQueuing name size depth direction discipline) =
    create_queuing_listed config seen (queuing_named config p name) size depth direction discipline
refusals_listed config seen p now (call.SendQueuing id message) = send_listed config seen id (queuing_port config seen p id) message
refusals_listed config seen p now (call.ReceiveQueuing id) = receive_listed seen id (queuing_port config seen p id)
refusals_listed config seen p now (call.QueuingId name) = queuing_id_listed seen (queuing_named config p name)
refusals_listed config seen p now (call.QueuingStatus id) = queuing_status_listed id (queuing_port config seen p id)
refusals_listed config seen p now (call.ClearQueuing id) = clear_listed (queuing_port config seen p id)
refusals_listed config seen p now (call.SetMode number) = set_mode_listed seen.mode (mode_numbered number)
