-- The rule for a channel's versions: whoever knows a list of writes there knows one of the same channel.
use Rattle.std.specs.Prelude.{ℕ, ◌≡◌, List, Option, Some}
use mathlib.Core.Option.{some}
use lib.ListN.{get_elem?}
use Rattle.logbook.specs.Pages.{Book}
use Rattle.apex_observers.specs.Published.{Published}

-- what is known, if anything, belongs to this channel
abbrev pub IsOf : Book → Option Published → Type 0
IsOf channel known = (published : Published) → known ≡ Some published → published.channel ≡ channel

-- the rule for the version that is shown and for what each pass knows
abbrev pub IsOneChannel : Published → List (Option Published) → Type 0
IsOneChannel version views = (pass : ℕ) (known : Option Published) → get_elem? views pass ≡ some known → IsOf version.channel known

-- a pass then knows the version that is shown, which is of the channel that the pass knew
abbrev pub Takes : Option Published → Published → Published → Option Published → Type 0
Takes before old new after = IsOf old.channel before × (after ≡ Some new)

-- the pass knows a list of this channel
abbrev pub Knows : Book → Option Published → Type 0
Knows channel known = (published : Published) × (known ≡ Some published) × (published.channel ≡ channel)
