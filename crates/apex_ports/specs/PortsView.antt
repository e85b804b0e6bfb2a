-- The ports of a module as plain data.
use Rattle.apex_module.specs.Configuration.{Configuration}
use Rattle.apex_ports.specs.History.{History}

-- the configuration, and all calls with their replies
pub record PortsView : Type 0 where
  pub config : Configuration
  pub history : History
