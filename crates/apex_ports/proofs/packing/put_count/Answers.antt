use Rattle.apex_ports.proofs.Common.{rules}
use Rattle.apex_ports.specs.Packed.{packed_count}
use Rattle.apex_ports.proofs.packing.put_count.Goals as goal

pub returns : goal.returns
unfolding packed_count
returns g c = search rules
