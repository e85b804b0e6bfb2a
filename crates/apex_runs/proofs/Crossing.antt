-- Threads may share the ports of a run if they may share their allocator.
use denote.RattleType.{RattleType}
use denote.Param.Send.{IsSend, IsSync, sendable, view_send}
use denote.Param.SendFields.{declared_send, declared_sync, as_row_send}
use Rattle.std.specs.declared.alloc.Allocator.{Ghosts}
use Rattle.std.proofs.Crossing.{crosses}
use Rattle.std_alloc.proofs.SendSync.{FreesAnywhere, Vec-send}
use Rattle.apex_ports.proofs.Crossing.{Ports-send}
use Rattle.apex_observers.proofs.observer.Observer.TheSendSync as observer
use Rattle.apex_observers.proofs.publishers.Publishers.TheSendSync as publishers
use Rattle.apex_observers.specs.contracts.observer.Observer as Observer
use Rattle.apex_runs.specs.contracts.run_ports.RunPorts as RunPorts
use Rattle.apex_runs.specs.contracts.run_ports.RunPorts.TheInside as RunPortsInside
use Rattle.apex_runs.specs.contracts.run_ports.SharedPorts as SharedPorts

module _ (A : RattleType) (g : Ghosts A.Denot) (s : IsSend A) (y : IsSync A) (f : FreesAnywhere A.Denot g) where
  Observer-send : IsSend (Observer.the_row A g)
  Observer-send = observer.the_send A g s y f

  RunPorts-send : IsSend (RunPorts.the_row A g)
  RunPorts-send = view_send _ _ _ _ _ (declared_send (RunPortsInside.the_type A g)
      (Ports-send A g s f, (publishers.the_send A g s y f, (search (as_row_send, Vec-send, Observer-send), (search (sendable, as_row_send, Vec-send), (search (sendable, as_row_send), tt))))))

  pub SharedPorts-sync : IsSync (SharedPorts.the_row A g)
  SharedPorts-sync = declared_sync (SharedPorts.the_type A g) (search (crosses, RunPorts-send), tt)
