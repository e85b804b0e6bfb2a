-- The pass over the form of a document: it finds all missing or unknown keys, values of a wrong type, and wrong words.
use Rattle.std.specs.Prelude.{ℕ, Bool, true, ◌||◌, ◌++◌, if◌then◌else◌, List, [], ◌∷◌, codes, is_some, Option, Some, None}
use Rattle.apex_config.specs.Prelude.{list_any, bytes_eq, Data, Members, as_array, as_table}
use Rattle.apex_config.specs.declared.key.Key.{Key}
use Rattle.apex_config.specs.declared.key.Key.TheVariants as key
use Rattle.apex_config.specs.declared.place.Part.{Part}
use Rattle.apex_config.specs.declared.place.Part.TheVariants.{Document, Partition, Port, Channel}
use Rattle.apex_config.specs.declared.place.Place.{Place}
use Rattle.apex_config.specs.Places.{whole, at, unknown, unless, at_each}
use Rattle.apex_config.specs.Values.{key_word, value_at, text_at, number_at, array_at, items_at, keys_of_table}
use Rattle.apex_config.specs.Text.{has_word, is_queuing, is_sampling, is_source}

-- ---- what a key must have

abbrev pub wants_text : Part → Key → Data → List Place
wants_text part key value = unless (is_some (text_at key value)) (at part key)

abbrev pub wants_number : Part → Key → Data → List Place
wants_number part key value = unless (is_some (number_at key value)) (at part key)

abbrev pub wants_array : Part → Key → Data → List Place
wants_array part key value = unless (is_some (array_at key value)) (at part key)

abbrev pub is_array_if_any : Option Data → Bool
is_array_if_any None = true
is_array_if_any (Some found) = is_some (as_array found)

abbrev pub wants_array_if_any : Part → Key → Data → List Place
wants_array_if_any part key value = unless (is_array_if_any (value_at key value)) (at part key)

abbrev pub wants_kind : Part → Data → List Place
wants_kind part value = unless (is_queuing value || is_sampling value) (at part key.Kind)

abbrev pub wants_direction : Part → Data → List Place
wants_direction part value = unless (is_source value || has_word key.Direction (codes "destination") value) (at part key.Direction)

-- ---- a table that has only these keys

abbrev pub is_known : List Key → List ℕ → Bool
is_known keys word = list_any (λ known. bytes_eq (key_word known) word) keys

abbrev pub unknown_keys : Part → List Key → Members → List Place
unknown_keys part keys table = at_each (λ number word. unless (is_known keys word) (unknown part number)) 0 (keys_of_table table)

-- what is found in a table; a value that is not a table is a place itself
abbrev pub in_table : Part → List Key → List Place → Option Members → List Place
in_table part keys found None = whole part ∷ []
in_table part keys found (Some table) = found ++ unknown_keys part keys table

-- ---- the parts of a configuration

abbrev pub channel_keys : Data → List Key
channel_keys value = if is_sampling value then key.Name ∷ key.Kind ∷ key.Size ∷ [] else key.Name ∷ key.Kind ∷ key.Size ∷ key.Depth ∷ []

unfoldable pub wrong_channel : ℕ → Data → List Place
wrong_channel c value =
    in_table (Channel c) (channel_keys value) (
    wants_text (Channel c) key.Name value
    ++ wants_number (Channel c) key.Size value
    ++ wants_kind (Channel c) value
    ++ (if is_queuing value then wants_number (Channel c) key.Depth value else [])
    ) (as_table value)

abbrev pub port_keys : Data → List Key
port_keys value = if is_queuing value then key.Name ∷ key.Kind ∷ key.Direction ∷ key.Channel ∷ [] else key.Name ∷ key.Kind ∷ key.Direction ∷ key.Channel ∷ key.Refresh ∷ []

unfoldable pub wrong_port : ℕ → ℕ → Data → List Place
wrong_port p i value =
    in_table (Port p i) (port_keys value) (
    wants_text (Port p i) key.Name value
    ++ wants_direction (Port p i) value
    ++ wants_text (Port p i) key.Channel value
    ++ wants_kind (Port p i) value
    ++ (if is_sampling value then wants_number (Port p i) key.Refresh value else [])
    ) (as_table value)

abbrev pub wrong_partition_keys : ℕ → Data → List Place
wrong_partition_keys p value =
    in_table (Partition p) (key.Name ∷ key.Port ∷ []) (
    wants_text (Partition p) key.Name value ++ wants_array_if_any (Partition p) key.Port value
    ) (as_table value)

unfoldable pub wrong_partition : ℕ → Data → List Place
wrong_partition p value = wrong_partition_keys p value ++ at_each (wrong_port p) 0 (items_at key.Port value)

abbrev pub wrong_document_keys : Data → List Place
wrong_document_keys document =
    in_table Document (key.Partition ∷ key.Channel ∷ []) (
    wants_array Document key.Partition document ++ wants_array_if_any Document key.Channel document
    ) (as_table document)

unfoldable pub wrong_form : Data → List Place
wrong_form document =
    wrong_document_keys document
    ++ at_each wrong_partition 0 (items_at key.Partition document)
    ++ at_each wrong_channel 0 (items_at key.Channel document)
