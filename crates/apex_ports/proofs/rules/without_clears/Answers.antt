use Rattle.apex_ports.proofs.WithoutClears.{without_clears}
use Rattle.apex_ports.proofs.rules.without_clears.Goals as goal

pub returns : goal.returns
returns c = without_clears
