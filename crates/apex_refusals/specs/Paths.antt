-- The path of a part of a configuration: its indexes count from 0.
use Rattle.std.specs.Prelude.{List, ℕ, ◌++◌, codes, decimal}
use Rattle.apex_config.specs.declared.place.Part.{Part}
use Rattle.apex_config.specs.declared.place.Part.TheVariants as parts

abbrev pub path_of : Part → List ℕ
path_of parts.Document = codes "configuration"
path_of (parts.Partition p) = codes "partition[" ++ (decimal p ++ codes "]")
path_of (parts.Port p i) = codes "partition[" ++ (decimal p ++ (codes "].port[" ++ (decimal i ++ codes "]")))
path_of (parts.Channel c) = codes "channel[" ++ (decimal c ++ codes "]")
