-- What a partition sees of a history: all that a reply to it depends on.
use Rattle.std.specs.Prelude.{ℕ, Bool, if◌then◌else◌, List, [], Option, Some, None}
use Rattle.apex_types.specs.declared.mode.Mode.{Mode}
use Rattle.apex_types.specs.declared.sample.Sample.{Sample}
use Rattle.apex_types.specs.declared.validity.Validity.{Validity}
use Rattle.apex_types.specs.declared.validity.Validity.TheVariants.{Invalid}
use Rattle.apex_module.specs.Configuration.{Configuration, port_of}
use Rattle.apex_module.specs.declared.port.Port.{Port}
use Rattle.apex_ports.specs.History.{History}
use Rattle.apex_ports.specs.Modes.{mode_of}
use Rattle.apex_ports.specs.Ports.{is_created, queuing_only, sampling_only}
use Rattle.apex_ports.specs.Channels.{waiting_on, last_write_on, last_validity_of}

-- its mode, and for the port with each identifier: whether it is created, its last validity, and what its channel holds
pub record Seen : Type 0 where
  pub mode : Mode
  pub created : ℕ → Bool
  pub last : ℕ → Validity
  pub waiting : ℕ → List (List ℕ)
  pub sample : ℕ → Option Sample

-- the messages that wait on the channel of a port
abbrev pub waiting_of : Configuration → History → Option Port → List (List ℕ)
waiting_of config history None = []
waiting_of config history (Some port) = waiting_on config port.channel history

-- the sample written last into the channel of a port
abbrev pub sample_of : Configuration → History → Option Port → Option Sample
sample_of config history None = None
sample_of config history (Some port) = last_write_on config port.channel history

-- what the partition sees after the history
abbrev pub seen : Configuration → History → ℕ → Seen
seen config history partition = record {
  mode = mode_of partition history;
  created = λ id. is_created partition id history;
  last = λ id. last_validity_of partition id history;
  waiting = λ id. waiting_of config history (port_of config partition id);
  sample = λ id. sample_of config history (port_of config partition id);
}

-- the port with the identifier, if it is created
abbrev pub created_port : Configuration → Seen → ℕ → ℕ → Option Port
created_port config seen partition id = if seen.created id then port_of config partition id else None

-- the port with the identifier, if it is created and of this kind
abbrev pub queuing_port : Configuration → Seen → ℕ → ℕ → Option Port
queuing_port config seen partition id = queuing_only (created_port config seen partition id)

abbrev pub sampling_port : Configuration → Seen → ℕ → ℕ → Option Port
sampling_port config seen partition id = sampling_only (created_port config seen partition id)

-- the last validity of a created sampling port; INVALID if there is no such port
abbrev pub validity_shown : Seen → ℕ → Option Port → Validity
validity_shown seen id None = Invalid
validity_shown seen id (Some port) = seen.last id
