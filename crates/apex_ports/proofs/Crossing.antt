-- The ports may be sent to another thread if their allocator may.
use denote.RattleType.{RattleType}
use denote.Param.Send.{IsSend, sendable, view_send}
use denote.Param.SendFields.{declared_send, as_row_send}
use Rattle.std.specs.declared.alloc.Allocator.{Ghosts}
use Rattle.std_alloc.proofs.SendSync.{FreesAnywhere, Vec-send}
use Rattle.apex_module.proofs.config.Config.TheSendSync as config
use Rattle.apex_ports.proofs.channel.ChannelState.TheSendSync as channel
use Rattle.apex_ports.proofs.partition.PartitionState.TheSendSync as partition
use Rattle.apex_ports.proofs.ghost_history.Log.TheSendSync as log
use Rattle.apex_ports.specs.contracts.channel.ChannelState as Channel
use Rattle.apex_ports.specs.contracts.partition.PartitionState as Partition
use Rattle.apex_ports.specs.contracts.ghost_history.GhostHistory as GhostHistory
use Rattle.apex_ports.specs.contracts.ghost_history.GhostHistory.TheInside as GhostHistoryInside
use Rattle.apex_ports.specs.contracts.ports.Ports as Ports
use Rattle.apex_ports.specs.contracts.ports.Ports.TheInside as PortsInside
use Rattle.apex_ports.specs.contracts.state.State as State

GhostHistory-send : IsSend GhostHistory.the_row
GhostHistory-send = view_send _ _ _ _ _ (declared_send GhostHistoryInside.the_type (log.the_send, tt))

module _ (A : RattleType) (g : Ghosts A.Denot) (s : IsSend A) (f : FreesAnywhere A.Denot g) where
  Partition-send : IsSend (Partition.the_row A g)
  Partition-send = partition.the_send A g s f

  Channel-send : IsSend (Channel.the_row A g)
  Channel-send = channel.the_send A g s f

  State-send : IsSend (State.the_row A g)
  State-send = declared_send (State.the_type A g) (GhostHistory-send, (search (as_row_send, Vec-send, Partition-send), (search (as_row_send, Vec-send, Channel-send), tt)))

  pub Ports-send : IsSend (Ports.the_row A g)
  Ports-send = view_send _ _ _ _ _ (declared_send (PortsInside.the_type A g) (config.the_send, (State-send, (search (sendable, as_row_send, Vec-send), tt))))
