use Rattle.std.proofs.Common.{◌≡◌, ◌+◌, map, drop, None}
use Rattle.std.specs.Prelude.{option_map}
use Rattle.apex_refusals.specs.Nearest.{most_edits, nearest_from}
use Rattle.apex_refusals.proofs.Nearer.{IsFound, EachBefore}
use Rattle.apex_refusals.proofs.known_word.nearest.Given as goal

abbrev pub invariant-loop-name : goal.invariant-loop-name
invariant-loop-name l =
    IsFound l.word l.least (option_map (λ name. name.now) l.found)
    × EachBefore l.name-index l.least l.word (map (λ name. name.now) l.known)
    × (nearest_from l.word (drop l.name-index (map (λ name. name.now) l.known)) l.least (option_map (λ name. name.now) l.found)
    ≡ nearest_from l.word (map (λ name. name.now) l.known) (most_edits l.word + 1) None)
