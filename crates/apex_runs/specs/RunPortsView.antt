-- What the workers of a run share, as plain data.
use Rattle.std.specs.Prelude.{List}
use Rattle.apex_module.specs.Configuration.{Configuration}
use Rattle.apex_observers.specs.Channels.{Channels, AreObservers}
use Rattle.apex_observers.specs.Published.{Published}
use Rattle.apex_ports.specs.History.{History}
use Rattle.apex_threads.specs.OnChannels.{ArePublished}

-- the configuration, the history of all calls, what is published on each channel, and what each observer of a sampling
-- channel knows
pub record RunPortsView : Type 0 where
  pub config : Configuration
  pub history : History
  pub published : Channels
  pub observers : List Published

-- the writes of the history are published, and the observers are those of the sampling channels
pub record IsObserved (run : RunPortsView) : Type 0 where
  pub published : ArePublished run.config run.history run.published
  pub observers : AreObservers run.published run.observers
