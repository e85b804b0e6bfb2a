-- What the bytes of a configuration mean: the configuration that they give, or the refusal by the first pass that finds
-- places.
use Rattle.std.specs.Prelude.{ℕ, ℤ, pos, negsuc, if◌then◌else◌, List, [], ◌∷◌, map, Option, Some, None, option_map, Result, Ok, Err, ◌≡◌, ◌≢◌}
use Rattle.apex_config.specs.Prelude.{is_utf8, Port, ConfigFault, NotToml, Shape, OutOfMemory, Data, table, PartitionData, Configuration}
use Rattle.apex_module.specs.declared.port.PortKind.{PortKind}
use Rattle.apex_module.specs.declared.port.PortKind.TheVariants as port_kind
use Rattle.apex_module.specs.declared.channel.Channel.{Channel}
use Rattle.apex_module.specs.declared.channel.ChannelKind.{ChannelKind}
use Rattle.apex_module.specs.declared.channel.ChannelKind.TheVariants as channel_kind
use Rattle.apex_config.specs.declared.place.Part.TheVariants.{Document}
use Rattle.apex_config.specs.declared.place.Place.{Place}
use Rattle.toml.specs.Parse.{parse_document}
use Rattle.apex_config.specs.Form.{wrong_form}
use Rattle.apex_config.specs.Text.{PortText, PartitionText, ChannelText, ConfigText, config_text_of}
use Rattle.apex_config.specs.Passes.{index_of_channel, found_by, passes}
use Rattle.apex_config.specs.Places.{whole}

-- ---- the configuration of a text that no pass refuses: its numbers are at least 1, and each port's channel exists

-- a number as a natural number; 0 if it is negative
abbrev pub natural : ℤ → ℕ
natural (pos number) = number
natural (negsuc number) = 0

abbrev pub channel_kind_of : Option ℤ → ChannelKind
channel_kind_of None = channel_kind.Sampling
channel_kind_of (Some depth) = channel_kind.Queuing (natural depth)

abbrev pub port_kind_of : Option ℤ → PortKind
port_kind_of None = port_kind.Queuing
port_kind_of (Some refresh) = port_kind.Sampling (natural refresh)

abbrev pub channel_of_text : ChannelText → Channel
channel_of_text channel = record { name = channel.name; size = natural channel.size; kind = channel_kind_of channel.depth }

abbrev pub port_of_text : List ChannelText → PortText → Port
port_of_text channels port = record { name = port.name; kind = port_kind_of port.refresh; direction = port.direction; channel = index_of_channel channels port.channel }

abbrev pub partition_of_text : List ChannelText → PartitionText → PartitionData
partition_of_text channels partition = record { name = partition.name; ports = map (port_of_text channels) partition.ports }

abbrev pub configuration_of : ConfigText → Configuration
configuration_of config = record { partitions = map (partition_of_text config.channels) config.partitions; channels = map channel_of_text config.channels }

-- ---- refusals

-- why a text is refused, and all places that the pass finds
pub record RefusalData : Type 0 where
  pub fault : ConfigFault
  pub places : List Place

-- the refusal by a pass that finds places, and otherwise what comes after it
abbrev pub refused_by : ConfigFault → List Place → Option RefusalData → Option RefusalData
refused_by fault [] later = later
refused_by fault (place ∷ places) later = Some (record { fault = fault; places = place ∷ places })

-- the refusal by the first of these passes over the text that finds places
abbrev pub first_refusal : List ConfigFault → ConfigText → Option RefusalData
first_refusal [] config = None
first_refusal (fault ∷ faults) config = refused_by fault (found_by fault config) (first_refusal faults config)

unfoldable pub refusal_of : Data → Option RefusalData
refusal_of document = refused_by Shape (wrong_form document) (first_refusal passes (config_text_of document))

-- ---- bytes

abbrev pub unless_refused : Configuration → Option RefusalData → Result Configuration RefusalData
unless_refused config None = Ok config
unless_refused config (Some refusal) = Err refusal

abbrev pub not_toml : RefusalData
not_toml = record { fault = NotToml; places = whole Document ∷ [] }

abbrev pub read_of_value : Data → Result Configuration RefusalData
read_of_value document = unless_refused (configuration_of (config_text_of document)) (refusal_of document)

-- the document that bytes give; none if they are not TOML
abbrev pub document_of : List ℕ → Option Data
document_of bytes = if is_utf8 bytes then option_map table (parse_document bytes) else None

abbrev pub read_of_document : Option Data → Result Configuration RefusalData
read_of_document None = Err not_toml
read_of_document (Some document) = read_of_value document

-- the configuration that bytes give, or their refusal
unfoldable pub read_of : List ℕ → Result Configuration RefusalData
read_of bytes = read_of_document (document_of bytes)

-- the configuration, or only the fault
abbrev pub fault_alone : Result Configuration RefusalData → Result Configuration ConfigFault
fault_alone (Ok config) = Ok config
fault_alone (Err refusal) = Err refusal.fault

-- the configuration that bytes give, or the fault of the first pass that finds places
unfoldable pub config_of : List ℕ → Result Configuration ConfigFault
config_of bytes = fault_alone (read_of bytes)

-- What reading returns unless memory runs out: the configuration, or the fault.
abbrev pub IsConfigRead : Result Configuration ConfigFault → Result Configuration ConfigFault → Type 0
IsConfigRead (Ok config) meaning = meaning ≡ Ok config
IsConfigRead (Err fault) meaning = fault ≢ OutOfMemory → meaning ≡ Err fault

-- What reading returns unless memory runs out: the configuration, or the fault with its places.
abbrev pub IsPlacedRead : Result Configuration RefusalData → Result Configuration RefusalData → Type 0
IsPlacedRead (Ok config) meaning = meaning ≡ Ok config
IsPlacedRead (Err refusal) meaning = refusal.fault ≢ OutOfMemory → meaning ≡ Err refusal
