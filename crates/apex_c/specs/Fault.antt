-- Where a configuration is refused, for C.
use Rattle.std.specs.Prelude.{ℕ, List, [], ◌∷◌, ◌++◌, codes, Result, Ok, Err}
use Rattle.apex_module.specs.Configuration.{Configuration}
use Rattle.apex_config.specs.Meaning.{RefusalData}
use Rattle.apex_config.specs.Values.{key_word}
use Rattle.apex_config.specs.declared.place.Part.{Part}
use Rattle.apex_config.specs.declared.place.Part.TheVariants.{Document}
use Rattle.apex_config.specs.declared.place.Place.{Place}
use Rattle.apex_config.specs.declared.place.Spot.{Spot}
use Rattle.apex_config.specs.declared.place.Spot.TheVariants.{At}
use Rattle.apex_refusals.specs.Paths.{path_of}
use Rattle.apex_c.specs.Found.{Found}
use Rattle.apex_c.specs.Texts.{IsText}
use Rattle.apex_c.specs.declared.opening.TheConstants.{OPENED}

-- the path of a part and a key of it; that of the part alone if the place is the whole part or an unknown key
abbrev pub path_at : Part → Spot → List ℕ
path_at Document (At key) = key_word key
path_at part (At key) = path_of part ++ (codes "." ++ key_word key)
path_at part _ = path_of part

-- the path of the first of these places
abbrev pub first_path : List Place → List ℕ
first_path [] = []
first_path (place ∷ places) = path_at place.part place.spot

-- the path of the first place of a refusal
abbrev pub path_in : Result Configuration RefusalData → Found (List ℕ)
path_in (Ok config) = Err OPENED
path_in (Err refusal) = Ok (first_path refusal.places)

-- if a text is refused, some lines are written
abbrev pub AreLinesOf : Result Configuration RefusalData → List ℕ → List ℕ → ℕ → Type 0
AreLinesOf (Ok config) old_buffer new_buffer new_length = Unit {0}
AreLinesOf (Err refusal) old_buffer new_buffer new_length = IsText old_buffer new_buffer new_length
