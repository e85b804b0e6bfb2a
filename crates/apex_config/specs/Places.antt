-- Lists of places in the text of a configuration.
use Rattle.std.specs.Prelude.{ℕ, suc, Bool, ◌≡◌, ◌++◌, if◌then◌else◌, List, [], ◌∷◌}
use Rattle.apex_config.specs.declared.key.Key.{Key}
use Rattle.apex_config.specs.declared.place.Part.{Part}
use Rattle.apex_config.specs.declared.place.Spot.TheVariants as spot
use Rattle.apex_config.specs.declared.place.Place.{Place}

-- a part as a whole
abbrev pub whole : Part → Place
whole part = record { part = part; spot = spot.Whole }

-- the value at a key of a part
abbrev pub at : Part → Key → Place
at part key = record { part = part; spot = spot.At key }

-- a key that its part doesn't take, by its number in the order of the part's keys
abbrev pub unknown : Part → ℕ → Place
unknown part number = record { part = part; spot = spot.Unknown number }

-- a place, if a test fails
abbrev pub unless : Bool → Place → List Place
unless passes place = if passes then [] else place ∷ []

-- what is found in the entries of a list, each with its index
abbrev pub at_each : {X : Type 0} → (ℕ → X → List Place) → ℕ → List X → List Place
at_each find index [] = []
at_each find index (x ∷ xs) = find index x ++ at_each find (suc index) xs

-- these places are appended
abbrev pub Adds : List Place → List Place → List Place → Type 0
Adds found before after = after ≡ before ++ found
