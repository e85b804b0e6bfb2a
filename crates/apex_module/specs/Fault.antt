-- The faults of a configuration, numbered by the pass that finds them.
use Rattle.std.specs.Prelude.{ℕ, Option, Some, None}
use Rattle.apex_module.specs.declared.fault.ConfigFault.{ConfigFault}
use Rattle.apex_module.specs.declared.fault.ConfigFault.TheVariants.{NotToml, Shape, BadName, NameTwice, OutOfRange, UnknownChannel, KindDiffers, Sources, Destinations, Counts, OutOfMemory}

-- the pass that finds the fault; none if memory ran out
abbrev pub pass_of : ConfigFault → Option ℕ
pass_of NotToml = Some 1
pass_of Shape = Some 2
pass_of BadName = Some 3
pass_of NameTwice = Some 4
pass_of OutOfRange = Some 5
pass_of UnknownChannel = Some 6
pass_of KindDiffers = Some 7
pass_of Sources = Some 8
pass_of Destinations = Some 9
pass_of Counts = Some 10
pass_of OutOfMemory = None
