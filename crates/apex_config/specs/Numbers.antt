-- The numbers of channels by their names.
use Rattle.std.specs.Prelude.{ℕ, ◌≡◌, List, position}
use Rattle.apex_config.specs.Prelude.{bytes_eq}
use Rattle.std.specs.Borrow.{Bor}
use Rattle.std.specs.BTreeMap.{BTreeMap, get}
use Rattle.std.specs.Cmp.Lexicographic.{slice_cmp}
use Rattle.std.specs.Ordering.{nat_cmp}
use Rattle.apex_config.specs.Text.{ChannelText}

-- a map from each name to the number of the first channel with that name, without other names
abbrev pub AreNumbers : BTreeMap (Bor (List ℕ)) ℕ → List ChannelText → Type 0
AreNumbers numbers channels =
    (name : Bor (List ℕ)) → get (λ x y. slice_cmp nat_cmp x.now y.now) numbers name ≡ position (λ channel. bytes_eq channel.name name.now) channels
