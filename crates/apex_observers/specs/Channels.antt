-- What is published on the channels of a module.
use Rattle.std.specs.Prelude.{ℕ, ◌≡◌, List, Option, None, Some, map, option_map, slice_get, slice_set, slice_index_or}
use mathlib.Core.List.{IsPrefix}
use Rattle.std.specs.List.{filter_map}
use Rattle.logbook.specs.Pages.{Book}
use Rattle.apex_types.specs.declared.sample.Sample.{Sample}
use Rattle.apex_observers.specs.Published.{Published, with_write}

-- what is published on each channel; nothing for a queuing channel
abbrev pub Channels : Type 0
Channels = List (Option Published)

-- the same, with one more write on the channel
abbrev pub written_on : ℕ → Sample → Channels → Channels
written_on channel sample channels =
    slice_set channels channel (option_map (λ published. with_write published sample) (slice_index_or channels channel None))

-- the identities of the channels, whatever is written there
abbrev pub books_of : Channels → List (Option Book)
books_of channels = map (option_map (λ published. published.channel)) channels

-- the sampling channels, in their order
abbrev pub sampling_of : Channels → List Published
sampling_of channels = filter_map (λ published. published) channels

-- these are observers of the sampling channels, in the channels' order
abbrev pub AreObservers : Channels → List Published → Type 0
AreObservers channels observers = map (λ known. known.channel) observers ≡ filter_map (λ book. book) (books_of channels)

-- each of these knows all that is published on the channel at its index
abbrev pub KnowAll : List Published → List Published → Type 0
KnowAll all observers =
    (index : ℕ) (published known : Published) → slice_get all index ≡ Some published → slice_get observers index ≡ Some known → IsPrefix published.writes known.writes
