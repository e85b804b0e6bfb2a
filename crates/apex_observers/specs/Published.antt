-- What is published on a sampling channel.
use Rattle.std.specs.Prelude.{◌-◌, List, [], ◌∷◌, ◌++◌, length, slice_get, Option}
use Rattle.logbook.specs.Pages.{Book}
use Rattle.apex_types.specs.declared.sample.Sample.{Sample}

-- writes published on a channel, oldest first. The history identifies the channel; the writes are a prefix of it
pub record Published : Type 0 where
  pub channel : Book
  pub writes : List Sample

-- the same, with one more write
abbrev pub with_write : Published → Sample → Published
with_write published sample = record { channel = published.channel; writes = published.writes ++ sample ∷ [] }

-- the last write
abbrev pub last_of : List Sample → Option Sample
last_of writes = slice_get writes (length writes - 1)
