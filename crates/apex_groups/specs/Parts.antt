-- Parts of scripts: the partitions on which depends what a channel's calls are answered, and what the channel counts.
use Rattle.std.specs.Prelude.{ℕ, ◌≡◌, ◌<◌, ◌==◌, ◌⊎◌, Bool, true, false, length, slice_get, Option, Some, None}
use Rattle.apex_types.specs.declared.call.Call.{Call}
use Rattle.apex_types.specs.declared.call.Call.TheVariants.{SamplingStatus}
use Rattle.apex_types.specs.declared.moment.Moment.{Moment}
use Rattle.apex_module.specs.Configuration.{is_queuing_port}
use Rattle.apex_ports.specs.Ports.{is_source}
use Rattle.apex_groups.specs.Prelude.{Configuration, port_of, Port, Scripts, script_of, PossibleReply}
use Rattle.apex_orders.specs.Commuting.{id_in}
use Rattle.apex_groups.specs.Groups.{group_of}
use Rattle.apex_groups.specs.declared.parts.OfPorts.{OfPorts}
use Rattle.apex_groups.specs.declared.parts.Parts.{Parts}

-- ---- the part of a call

-- the identifier of the port that a call names, so that its reply can depend on the port's channel
abbrev pub id_asked : Call → Option ℕ
id_asked (SamplingStatus id) = Some id
id_asked call = id_in call

abbrev pub part_in : Option OfPorts → ℕ → ℕ
part_in None id = 0
part_in (Some one) id = group_of one.parts.items id

-- the part of the partition's port
abbrev pub part_of_port : Parts → ℕ → ℕ → ℕ
part_of_port parts p id = part_in (slice_get parts.of_ports.items p) id

abbrev pub part_of_named : Parts → ℕ → ℕ → Option Port → ℕ
part_of_named parts p id None = group_of parts.of_partitions.items p
part_of_named parts p id (Some port) = part_of_port parts p id

-- the part of the port that is named; if there is none, that of the partition
abbrev pub part_of_id : Configuration → Parts → ℕ → Option ℕ → ℕ
part_of_id config parts p None = group_of parts.of_partitions.items p
part_of_id config parts p (Some id) = part_of_named parts p id (port_of config p id)

abbrev pub part_of_call : Configuration → Parts → ℕ → Call → ℕ
part_of_call config parts p call = part_of_id config parts p (id_asked call)

abbrev pub part_of_timed : Configuration → Parts → ℕ → Option (Moment × Call) → ℕ
part_of_timed config parts p None = group_of parts.of_partitions.items p
part_of_timed config parts p (Some timed) = part_of_call config parts p timed.1

-- the part of the call of a script at an index
abbrev pub part_of_index : Configuration → Parts → Scripts → ℕ → ℕ → ℕ
part_of_index config parts scripts p index = part_of_timed config parts p (slice_get (script_of scripts p) index)

-- the reply is to a call of the part
abbrev pub is_of_part : Configuration → Parts → Scripts → ℕ → PossibleReply → Bool
is_of_part config parts scripts part one = part_of_index config parts scripts one.partition one.index == part

-- ---- the partitions of a part

-- the port reads a sampling channel, and so changes nothing on it
pub record IsReader (port : Port) : Type 0 where
  pub reads : is_source port.direction ≡ false
  pub samples : is_queuing_port port.kind ≡ false

-- the partitions inside have all ports of the channel, but for readers
abbrev pub IsFed : Configuration → (ℕ → Bool) → ℕ → Type 0
IsFed config inside c =
    (p id : ℕ) (port : Port) → port_of config p id ≡ Some port → port.channel ≡ c → (inside p ≡ true) ⊎ IsReader port

-- if the port is of the part, its partition and its channel are inside; and if its channel is, so is its partition, or it
-- is a reader
pub record IsPortHeld (parts : Parts) (part : ℕ) (inside own : ℕ → Bool) (p id : ℕ) (port : Port) : Type 0 where
  pub mine : part_of_port parts p id ≡ part → (inside p ≡ true) × (own port.channel ≡ true)
  pub fed : own port.channel ≡ true → (inside p ≡ true) ⊎ IsReader port

-- if the partition is of the part, it is inside, and its ports are held
pub record IsHeld (config : Configuration) (parts : Parts) (part : ℕ) (inside own : ℕ → Bool) (p : ℕ) : Type 0 where
  pub partition : group_of parts.of_partitions.items p ≡ part → inside p ≡ true
  pub port : (id : ℕ) (port : Port) → port_of config p id ≡ Some port → IsPortHeld parts part inside own p id port

-- the sets of partitions and channels hold the part
pub record HoldsPart (config : Configuration) (parts : Parts) (part : ℕ) (inside own : ℕ → Bool) : Type 0 where
  pub each : (p : ℕ) → p < length config.partitions → IsHeld config parts part inside own p
  pub channel : (c : ℕ) → c < length config.channels → group_of parts.of_channels.items c ≡ part → own c ≡ true

-- each part has a number below the count
pub record AreBelow (parts : Parts) : Type 0 where
  pub ports : (p id : ℕ) → part_of_port parts p id < parts.count
  pub channels : (c : ℕ) → group_of parts.of_channels.items c < parts.count
  pub partitions : (p : ℕ) → group_of parts.of_partitions.items p < parts.count
