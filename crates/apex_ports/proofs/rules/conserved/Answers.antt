use Rattle.apex_ports.proofs.Conserved.{always_conserved}
use Rattle.apex_ports.proofs.rules.conserved.Goals as goal

pub returns : goal.returns
returns c = always_conserved
