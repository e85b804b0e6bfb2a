use Rattle.apex_ports.proofs.WithoutClears.{always_received_or_cleared}
use Rattle.apex_ports.proofs.rules.received_or_cleared.Goals as goal

pub returns : goal.returns
returns c = always_received_or_cleared
