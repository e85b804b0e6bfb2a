use Rattle.dekarino_texts.proofs.Common.{◌≡◌, ◌+◌, ◌++◌, drop, ports_of, places_in}
use Rattle.dekarino_texts.proofs.table.push_partners.Given as goal

abbrev pub invariant-loop-index : goal.invariant-loop-index
invariant-loop-index l =
    l.places.items ++ places_in l.port l.p (l.index + 1) (drop l.index (ports_of l.config l.p)) ≡ l.fn.places.items ++ places_in l.port l.p 1 (ports_of l.config l.p)
