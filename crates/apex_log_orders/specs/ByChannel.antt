-- What histories and logs have about one channel.
use Rattle.std.specs.Prelude.{ℕ, Bool, false, not, ◌==◌, ◌&&◌, map, filter, Option, Some, None}
use Rattle.apex_log_orders.specs.Prelude.{Call, SamplingStatus, Configuration, ports_of, Port, Entry, History}
use Rattle.std.specs.List.{list_any}
use Rattle.apex_orders.specs.Commuting.{id_in, port_in}
use Rattle.apex_log_orders.specs.LogOrders.{Logs}

-- the partition has a port of the channel
abbrev pub has_end : Configuration → ℕ → ℕ → Bool
has_end config c p = list_any (λ port. port.channel == c) (ports_of config p)

-- the identifier of the port that the call uses
abbrev pub id_used : Call → Option ℕ
id_used (SamplingStatus id) = Some id
id_used call = id_in call

-- the port is one of another channel
abbrev pub is_elsewhere : ℕ → Option Port → Bool
is_elsewhere c None = false
is_elsewhere c (Some port) = not (port.channel == c)

-- the entry is of a partition at the channel, and its call uses no port of another channel
abbrev pub is_about : Configuration → ℕ → Entry → Bool
is_about config c entry =
    has_end config c entry.partition && not (is_elsewhere c (port_in config entry.partition (id_used entry.call)))

-- the entries about the channel
abbrev pub about : Configuration → ℕ → History → History
about config c history = filter (is_about config c) history

-- each log without what isn't about the channel
abbrev pub logs_about : Configuration → ℕ → Logs → Logs
logs_about config c logs = map (about config c) logs
