use Rattle.dekarino_drawings.proofs.Common.{ℕ, List, ap, sym, ◌∙◌, map-id, flat_map}
use Rattle.std.proofs.lemmas.Iterator.{YieldsList-from_chars}
use Rattle.std.proofs.lemmas.Iterator.Consumers.{YieldsList-end}
use Rattle.dekarino_drawings.specs.Escaping.{escaped_char}
use Rattle.dekarino_drawings.proofs.svg.escaped.Goals as goal

pub returns : goal.returns
returns c =
    let all = YieldsList-end (YieldsList-from_chars c.args.text.now c.utf8.text cc) c.loop-character.yielded _ c.loop-character.yielded_by _ _ c.in-None.is c.next.ensures.steps in
    c.loop-character.invariant ∙ ap (λ (characters : List ℕ). flat_map escaped_char characters) (sym (map-id c.loop-character.yielded) ∙ all.0)
