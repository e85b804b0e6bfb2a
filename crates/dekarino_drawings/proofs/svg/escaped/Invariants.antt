use Rattle.dekarino_drawings.proofs.Common.{◌≡◌, string_bytes, flat_map}
use Rattle.dekarino_drawings.specs.Escaping.{escaped_char}
use Rattle.dekarino_drawings.proofs.svg.escaped.Given as goal

abbrev pub invariant-loop-character : goal.invariant-loop-character
invariant-loop-character l = string_bytes l.made ≡ flat_map escaped_char l.yielded
