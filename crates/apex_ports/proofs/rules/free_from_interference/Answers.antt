use Rattle.apex_ports.proofs.Interference.{always_free}
use Rattle.apex_ports.proofs.rules.free_from_interference.Goals as goal

pub returns : goal.returns
returns c = always_free
