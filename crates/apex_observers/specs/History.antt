-- The rule for a channel's history, and what its one step guarantees.
use Rattle.std.specs.Prelude.{ℕ, ◌≡◌, ◌==◌, true, List, [], ◌∷◌, ◌++◌, length, IsTrue}
use Rattle.logbook.specs.Pages.{Cell, Step, View, Book, Named}
use Rattle.apex_types.specs.declared.sample.Sample.{Sample}

-- the first word counts the writes; a history has a second word, which stays at 0
abbrev pub IsCounted : List Cell → List Sample → Type 0
IsCounted cells log = cells ≡ (length log, true) ∷ (0, true) ∷ []

-- the word that counts the writes of the channel
abbrev pub count_of : Book → Named
count_of book = record { tracked = true; key = 0; book = book }

-- if the count was the expected one, the write is appended to all that was known
abbrev pub Adds : Step Sample → View Sample ℕ → ℕ → View Sample ℕ → Type 0
Adds step before found after = IsTrue (found == step.old) → after.0 ≡ before.0 ++ step.ask ∷ []
