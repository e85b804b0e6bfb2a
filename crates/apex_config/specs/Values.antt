-- What a TOML value holds at the keys of a configuration.
use Rattle.std.specs.Prelude.{ℕ, ℤ, List, [], ◌∷◌, codes, Option, Some, None, option_and_then}
use Rattle.apex_config.specs.Prelude.{Data, Items, no_items, item, Members, no_members, member, get, as_str, as_integer, as_array}
use Rattle.apex_config.specs.declared.key.Key.{Key}
use Rattle.apex_config.specs.declared.key.Key.TheVariants.{Partition, Port, Channel, Name, Kind, Direction, Size, Depth, Refresh}

-- the key as a word
abbrev pub key_word : Key → List ℕ
key_word Partition = codes "partition"
key_word Port = codes "port"
key_word Channel = codes "channel"
key_word Name = codes "name"
key_word Kind = codes "kind"
key_word Direction = codes "direction"
key_word Size = codes "size"
key_word Depth = codes "depth"
key_word Refresh = codes "refresh"

-- the value at a key of a table
abbrev pub value_at : Key → Data → Option Data
value_at key value = get (key_word key) value

-- the text at a key
abbrev pub text_at : Key → Data → Option (List ℕ)
text_at key value = option_and_then as_str (value_at key value)

-- the whole number at a key
abbrev pub number_at : Key → Data → Option ℤ
number_at key value = option_and_then as_integer (value_at key value)

-- the array at a key
abbrev pub array_at : Key → Data → Option Items
array_at key value = option_and_then as_array (value_at key value)

-- items as a list
abbrev pub list_of : Items → List Data
list_of no_items = []
list_of (item value values) = value ∷ list_of values

-- the items of an array that exists
abbrev pub list_of_array : Option Items → List Data
list_of_array None = []
list_of_array (Some items) = list_of items

-- the items of the array at a key; none if there is no array
abbrev pub items_at : Key → Data → List Data
items_at key value = list_of_array (array_at key value)

-- the keys of a table, in their order
abbrev pub keys_of_table : Members → List (List ℕ)
keys_of_table no_members = []
keys_of_table (member key value others) = key ∷ keys_of_table others
