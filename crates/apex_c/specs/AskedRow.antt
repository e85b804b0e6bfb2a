-- The row of a call that isn't made.
use Rattle.std.specs.Prelude.{ℕ, ◌==◌, if◌then◌else◌, List, Option, None, Some, Result, Ok, Err}
use Rattle.apex_types.specs.Name.{name_of}
use Rattle.apex_types.specs.declared.call.Call.{Call}
use Rattle.apex_types.specs.declared.call.Call.TheVariants as call
use Rattle.apex_types.specs.declared.moment.Moment.{Moment}
use Rattle.apex_ports.specs.PortsView.{PortsView}
use Rattle.apex_ports.specs.ReplyTable.{row_of}
use Rattle.apex_ports.specs.Seen.{seen}
use Rattle.apex_ports.specs.declared.rows.Row.{Row}
use Rattle.apex_texts.specs.declared.service.Service.{Service}
use Rattle.apex_texts.specs.declared.service.Service.TheVariants as service
use Rattle.apex_c.specs.Asked.{Asked, asked_with, entry_asked, name_asked}
use Rattle.apex_c.specs.Found.{Found, in_partition}
use Rattle.apex_c.specs.Held.{PortsHeld}
use Rattle.apex_c.specs.Rows.{row_number}
use Rattle.apex_c.specs.declared.answer.TheConstants.{NO_SERVICE}
use Rattle.apex_c.specs.declared.asked.AskedCall.{AskedCall}

-- the service of a number
abbrev pub service_numbered : ℕ → Option Service
service_numbered number =
    if number == 0 then Some service.CreateSampling
    else if number == 1 then Some service.WriteSampling
    else if number == 2 then Some service.ReadSampling
    else if number == 3 then Some service.SamplingId
    else if number == 4 then Some service.SamplingStatus
    else if number == 5 then Some service.CreateQueuing
    else if number == 6 then Some service.SendQueuing
    else if number == 7 then Some service.ReceiveQueuing
    else if number == 8 then Some service.QueuingId
    else if number == 9 then Some service.QueuingStatus
    else if number == 10 then Some service.ClearQueuing
    else if number == 11 then Some service.SetMode
    else None

-- the call of a service, with the name that the bytes are, if they are one, or with the bytes as its message
abbrev pub call_of : AskedCall → Result (List ℕ) ℕ → List ℕ → Service → Asked
call_of asked name bytes service.CreateSampling =
    asked_with (λ it. call.CreateSampling it asked.size asked.direction asked.refresh) name
call_of asked name bytes service.WriteSampling = Ok (call.WriteSampling asked.id bytes)
call_of asked name bytes service.ReadSampling = Ok (call.ReadSampling asked.id)
call_of asked name bytes service.SamplingId = asked_with (λ it. call.SamplingId it) name
call_of asked name bytes service.SamplingStatus = Ok (call.SamplingStatus asked.id)
call_of asked name bytes service.CreateQueuing =
    asked_with (λ it. call.CreateQueuing it asked.size asked.depth asked.direction asked.discipline) name
call_of asked name bytes service.SendQueuing = Ok (call.SendQueuing asked.id bytes)
call_of asked name bytes service.ReceiveQueuing = Ok (call.ReceiveQueuing asked.id)
call_of asked name bytes service.QueuingId = asked_with (λ it. call.QueuingId it) name
call_of asked name bytes service.QueuingStatus = Ok (call.QueuingStatus asked.id)
call_of asked name bytes service.ClearQueuing = Ok (call.ClearQueuing asked.id)
call_of asked name bytes service.SetMode = Ok (call.SetMode asked.mode)

abbrev pub call_of_found : AskedCall → Result (List ℕ) ℕ → List ℕ → Option Service → Asked
call_of_found asked name bytes None = Err NO_SERVICE
call_of_found asked name bytes (Some service) = call_of asked name bytes service

-- the call of the number of its service
abbrev pub call_asked : AskedCall → List ℕ → Asked
call_asked asked bytes = call_of_found asked (name_asked (name_of bytes)) bytes (service_numbered asked.service)

-- the same as an entry of a log
abbrev pub call_judged : AskedCall → List ℕ → Asked
call_judged asked bytes = entry_asked (call_asked asked bytes)

-- the row that the ports have for a call of a partition
abbrev pub row_of_ports : PortsView → ℕ → Moment → Call → Row
row_of_ports ports p at call = row_of ports.config (seen ports.config ports.history p) p at call

-- found of a call that is asked for, of a partition that the ports have
abbrev pub of_call : {X : Type 0} → PortsHeld → ℕ → Asked → (PortsView → Call → X) → Found X
of_call held p (Err number) find = Err number
of_call held p (Ok call) find = in_partition held p (λ ports. Ok (find ports call))

-- the number of the row
abbrev pub row_in : PortsHeld → ℕ → Moment → Asked → Found ℕ
row_in held p at asked = of_call held p asked (λ ports call. row_number (row_of_ports ports p at call))
