-- What is at a place of a document.
use Rattle.std.specs.Prelude.{ℕ, Bool, true, false, List, slice_get, is_some, Option, Some, None, option_and_then}
use Rattle.toml.specs.Data.{Data, get, as_table}
use Rattle.apex_config.specs.Values.{key_word, items_at, keys_of_table}
use Rattle.apex_config.specs.declared.key.Key.TheVariants as key
use Rattle.apex_config.specs.declared.place.Part.{Part}
use Rattle.apex_config.specs.declared.place.Part.TheVariants as parts
use Rattle.apex_config.specs.declared.place.Place.{Place}
use Rattle.apex_config.specs.declared.place.Spot.{Spot}
use Rattle.apex_config.specs.declared.place.Spot.TheVariants as spots

-- the value of a part
abbrev pub value_of : Data → Part → Option Data
value_of document parts.Document = Some document
value_of document (parts.Partition p) = slice_get (items_at key.Partition document) p
value_of document (parts.Port p i) = option_and_then (λ partition. slice_get (items_at key.Port partition) i) (slice_get (items_at key.Partition document) p)
value_of document (parts.Channel c) = slice_get (items_at key.Channel document) c

-- a key of a table by its number, in the order of the keys
abbrev pub key_numbered : ℕ → Data → Option (List ℕ)
key_numbered number value = option_and_then (λ members. slice_get (keys_of_table members) number) (as_table value)

abbrev pub key_of_spot : Spot → Option Data → Option (List ℕ)
key_of_spot spots.Whole value = None
key_of_spot (spots.At key) value = Some (key_word key)
key_of_spot (spots.Unknown number) value = option_and_then (key_numbered number) value

-- the word of the key that is at a place, or must be there
abbrev pub key_at : Data → Place → Option (List ℕ)
key_at document place = key_of_spot place.spot (value_of document place.part)

abbrev pub has_key : Option Data → Option (List ℕ) → Bool
has_key None key = false
has_key (Some value) None = true
has_key (Some value) (Some key) = is_some (get key value)

-- whether a document has something at a key of a part, or has the part itself if there is no key
abbrev pub document_has : Data → Part → Option (List ℕ) → Bool
document_has document part key = has_key (value_of document part) key
