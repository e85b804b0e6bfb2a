use Rattle.apex_ports.proofs.Common.{rules}
use Rattle.apex_ports.specs.Packed.{packed_number}
use Rattle.apex_ports.proofs.packing.put_number.Goals as goal

pub returns-clause-written : goal.returns-clause-written
unfolding packed_number
returns-clause-written g c = search rules
