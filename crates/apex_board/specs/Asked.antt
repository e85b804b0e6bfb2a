-- The queuing port by which a call sends, receives or clears.
use Rattle.std.specs.Prelude.{ℕ, ◌≡◌, ◌<◌, Option, Some, None, option_map, option_and_then}
use Rattle.apex_board.specs.Prelude.{Call, SendQueuing, ReceiveQueuing, ClearQueuing, Configuration, port_of}
use Rattle.apex_module.specs.declared.port.Port.{Port}
use Rattle.apex_ports.specs.declared.history.Entry.{Entry}
use Rattle.apex_board.specs.declared.asked.AskedPort.{AskedPort}

-- the identifier of the port by which a call sends, receives or clears
abbrev pub queue_asked : Call → Option ℕ
queue_asked (SendQueuing id message) = Some id
queue_asked (ReceiveQueuing id) = Some id
queue_asked (ClearQueuing id) = Some id
queue_asked _ = None

-- the port's channel and direction
abbrev pub asked_of : Port → AskedPort
asked_of port = record { channel = port.channel; direction = port.direction }

-- the channel and direction of the port by which a partition's call sends, receives or clears
abbrev pub asked_port : Configuration → ℕ → Call → Option AskedPort
asked_port config p call = option_map asked_of (option_and_then (port_of config p) (queue_asked call))

-- it is the port that the entry's call uses
abbrev pub IsAskedBy : Configuration → Entry → Option AskedPort → Type 0
IsAskedBy config entry port = port ≡ asked_port config entry.partition entry.call

-- its channel is one of this number of channels
abbrev pub IsBelow : ℕ → Option AskedPort → Type 0
IsBelow count None = Unit {0}
IsBelow count (Some port) = port.channel < count
