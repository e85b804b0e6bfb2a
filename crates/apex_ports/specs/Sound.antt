-- What holds for the ports of a module, whatever was called.
use Rattle.apex_module.specs.Configuration.{Configuration, IsConfiguration}
use Rattle.apex_ports.specs.History.{History}
use Rattle.apex_ports.specs.Lawful.{IsLawful}

-- the configuration is an accepted one, and the history is lawful
pub record IsSound (config : Configuration) (history : History) : Type 0 where
  pub valid : IsConfiguration config
  pub lawful : IsLawful config history
