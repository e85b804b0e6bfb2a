use Rattle.std.proofs.Common.{subst, sym}
use Rattle.std.specs.Str.{IsAscii}
use Rattle.std.proofs.lemmas.Str.{IsUtf8-from_ascii}
use Rattle.apex_types.proofs.NameLemmas.{name_is_ascii}
use Rattle.apex_types.proofs.name.Name.text.Goals as goal

pub from_utf8_unchecked-requires : goal.from_utf8_unchecked-requires
from_utf8_unchecked-requires c = IsUtf8-from_ascii _ (subst IsAscii (sym c.as_slice.ensures.value) (name_is_ascii _ c.self.invariant.characters))
