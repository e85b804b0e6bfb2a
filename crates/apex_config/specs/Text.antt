-- What a document says about a configuration if its form is right. Names, numbers and links may be wrong.
use Rattle.std.specs.Prelude.{ℕ, ℤ, pos, Bool, if◌then◌else◌, List, [], map, codes, unwrap_or, Option, Some, None}
use Rattle.apex_config.specs.Prelude.{bytes_eq, Source, Destination, Data}
use Rattle.apex_types.specs.declared.direction.Direction as direction
use Rattle.apex_config.specs.declared.key.Key.{Key}
use Rattle.apex_config.specs.declared.key.Key.TheVariants as key
use Rattle.apex_config.specs.Values.{text_at, number_at, items_at}

-- a port: a sampling port has a refresh period, and the channel is given by name
pub record PortText : Type 0 where
  pub name : List ℕ
  pub refresh : Option ℤ
  pub direction : direction.Direction
  pub channel : List ℕ

pub record PartitionText : Type 0 where
  pub name : List ℕ
  pub ports : List PortText

-- a channel: a queuing channel has a depth
pub record ChannelText : Type 0 where
  pub name : List ℕ
  pub size : ℤ
  pub depth : Option ℤ

pub record ConfigText : Type 0 where
  pub partitions : List PartitionText
  pub channels : List ChannelText

-- ---- the value at a key; an empty text or 0 if the form is wrong

abbrev pub text_in : Key → Data → List ℕ
text_in key value = unwrap_or (text_at key value) []

abbrev pub number_in : Key → Data → ℤ
number_in key value = unwrap_or (number_at key value) (pos 0)

-- whether the text at a key is a word
abbrev pub has_word : Key → List ℕ → Data → Bool
has_word key word value = bytes_eq (text_in key value) word

abbrev pub is_queuing : Data → Bool
is_queuing value = has_word key.Kind (codes "queuing") value

abbrev pub is_sampling : Data → Bool
is_sampling value = has_word key.Kind (codes "sampling") value

abbrev pub is_source : Data → Bool
is_source value = has_word key.Direction (codes "source") value

-- ---- the parts of a configuration

abbrev pub port_text_of : Data → PortText
port_text_of value = record {
  name = text_in key.Name value;
  refresh = if is_sampling value then Some (number_in key.Refresh value) else None;
  direction = if is_source value then Source else Destination;
  channel = text_in key.Channel value;
}

abbrev pub partition_text_of : Data → PartitionText
partition_text_of value = record {
  name = text_in key.Name value;
  ports = map port_text_of (items_at key.Port value);
}

abbrev pub channel_text_of : Data → ChannelText
channel_text_of value = record {
  name = text_in key.Name value;
  size = number_in key.Size value;
  depth = if is_queuing value then Some (number_in key.Depth value) else None;
}

abbrev pub config_text_of : Data → ConfigText
config_text_of document = record {
  partitions = map partition_text_of (items_at key.Partition document);
  channels = map channel_text_of (items_at key.Channel document);
}
