-- A worker, or a whole search, may go to another thread, and all workers may read the same: what is saved has no value that belongs to one thread.
use denote.Param.Send.{IsSend, IsSync, sendable, view_send, view_sync, whole-keyless}
use denote.Ref.{NamedLft}
use denote.Param.SendFields.{declared_send, declared_sync, as_row_send, as_row_sync}
use Rattle.std.proofs.Crossing.{crosses, frees, send as heap_send, sync as heap_sync}
use Rattle.std_alloc.proofs.SendSync.{Vec-send, Vec-sync}
use Rattle.std_heap.specs.contracts.Global as Heap
use Rattle.std_heap.specs.contracts.GlobalAllocator.TheImpl.{ghosts}
use Rattle.apex_ports.proofs.ghost_history.Log.TheSendSync as log
use Rattle.apex_ports.specs.contracts.ghost_history.Log as Log
use Rattle.apex_ports.specs.contracts.ghost_history.GhostHistory as GhostHistory
use Rattle.apex_ports.specs.contracts.ghost_history.GhostHistory.TheInside as GhostHistoryInside
use Rattle.apex_ports.proofs.partition.PartitionState.TheSendSync as partition_state
use Rattle.apex_ports.proofs.channel.ChannelState.TheSendSync as channel_state
use Rattle.apex_ports.specs.contracts.state.State as State
use Rattle.apex_ports.specs.contracts.ports.Ports as Ports
use Rattle.apex_ports.specs.contracts.ports.Ports.TheInside as PortsInside
use Rattle.apex_orders.specs.contracts.trial.Trial as Trial
use Rattle.apex_ports.specs.contracts.ports.saved.SavedPorts as SavedPorts
use Rattle.apex_ports.specs.contracts.ports.saved.SavedPorts.TheInside as SavedPortsInside
use Rattle.apex_module.proofs.config.Config.TheSendSync as config
use Rattle.apex_ports.proofs.ports.Ports.TheSendSync as ports
use Rattle.apex_ports.proofs.script.Script.TheSendSync as script
use Rattle.apex_orders.proofs.hash_index.HashIndex.TheSendSync as hashes
use Rattle.apex_orders.proofs.last_uses.LastUses.TheSendSync as uses
use Rattle.apex_orders.proofs.order.PackedOrder.TheSendSync as packed
use Rattle.apex_orders.proofs.orders.Orders.TheSendSync as orders
use Rattle.apex_orders.proofs.replies.Replies.TheSendSync as replies
use Rattle.apex_orders.proofs.trial.Trial.TheSendSync as trial
use Rattle.apex_orders.specs.contracts.points.Points as Points
use Rattle.apex_orders.specs.contracts.shared.Shared as Shared
use Rattle.apex_orders.specs.contracts.found_point.FoundPoint as FoundPoint
use Rattle.apex_orders.specs.contracts.worker.Worker as Worker
use Rattle.apex_orders.specs.contracts.marks.Marks as Marks
use Rattle.apex_orders.specs.contracts.search.Search as Search
use Rattle.apex_orders.specs.contracts.workers.Workers as Workers
use Rattle.apex_orders.specs.contracts.rounds.Rounds as Rounds
use Rattle.apex_orders.specs.contracts.outcome_search.OutcomeSearch as OutcomeSearch

ghost_history_send : IsSend GhostHistory.the_row
ghost_history_send = view_send _ _ _ _ _ (declared_send GhostHistoryInside.the_type (log.the_send, tt))

saved_ports_send : IsSend (SavedPorts.the_row Heap.the_row ghosts)
saved_ports_send = view_send _ _ _ _ _ (declared_send (SavedPortsInside.the_type Heap.the_row ghosts)
    (search (sendable, crosses, as_row_send), (ghost_history_send, (search (sendable, crosses, as_row_send, Vec-send) depth 12, tt))))

found_point_send : IsSend FoundPoint.the_row
found_point_send = declared_send FoundPoint.the_type (search sendable, (search sendable, (search sendable, (saved_ports_send, tt))))

pub worker_send : IsSend Worker.the_row
worker_send = declared_send Worker.the_type (
  search (sendable, crosses, as_row_send) depth 12,
  (
    search sendable,
    (
      search (sendable, crosses, as_row_send) depth 12,
      (
        search sendable,
        (
          search (crosses, saved_ports_send),
          (
            search (crosses, found_point_send),
            (
              search (sendable, crosses, as_row_send) depth 12,
              (
                search (as_row_send, replies.the_send),
                (search (crosses, saved_ports_send), (search sendable, (search (sendable, crosses, as_row_send) depth 12, (search (as_row_send, trial.the_send), tt)))),
              ),
            ),
          ),
        ),
      ),
    ),
  ),
)

-- ---- a search with its workers

points_send : IsSend Points.the_row
points_send = declared_send Points.the_type (search sendable, (search sendable, (search sendable, (search (crosses, saved_ports_send), (search sendable, tt)))))

search_send : IsSend Search.the_row
search_send = declared_send Search.the_type (
  search (as_row_send, orders.the_send),
  (points_send, (search (as_row_send, replies.the_send), (search (crosses, as_row_send, Vec-send, uses.the_send), (search (sendable, crosses, as_row_send) depth 12, tt)))),
)

marks_send : IsSend Marks.the_row
marks_send = declared_send Marks.the_type (search (sendable, crosses, as_row_send) depth 12, (search (sendable, crosses, as_row_send) depth 12, (search (as_row_send, trial.the_send), tt)))

workers_send : IsSend Workers.the_row
workers_send = declared_send Workers.the_type (search (crosses, worker_send), (search (sendable, crosses, marks_send) depth 12, (search (sendable, crosses) depth 12, (search sendable, tt))))

rounds_send : IsSend Rounds.the_row
rounds_send = declared_send Rounds.the_type (search_send, (workers_send, (search sendable, (search (as_row_send, ports.the_send Heap.the_row ghosts heap_send frees), (search (sendable, crosses, packed.the_send) depth 12, tt)))))

pub outcome_search_send : IsSend OutcomeSearch.the_row
outcome_search_send = declared_send OutcomeSearch.the_type (rounds_send, tt)

-- ---- what all workers read

log_sync : IsSync Log.the_row
log_sync = record { shared = λ d b o κ q. whole-keyless _ _ (λ x vs. (log.the_send).owned x vs) q d b o }

ghost_history_sync : IsSync GhostHistory.the_row
ghost_history_sync = view_sync _ _ _ _ _ (declared_sync GhostHistoryInside.the_type (log_sync, tt))

saved_ports_sync : IsSync (SavedPorts.the_row Heap.the_row ghosts)
saved_ports_sync = view_sync _ _ _ _ _ (declared_sync (SavedPortsInside.the_type Heap.the_row ghosts)
    (search (sendable, crosses, as_row_sync), (ghost_history_sync, (search (sendable, crosses, as_row_sync, Vec-sync) depth 12, tt))))

kept_state_sync : IsSync (State.the_row Heap.the_row ghosts)
kept_state_sync = declared_sync (State.the_type Heap.the_row ghosts) (
  search (as_row_sync, ghost_history_sync),
  (search (crosses, as_row_sync, Vec-sync, partition_state.the_sync Heap.the_row ghosts heap_sync) depth 8, (search (crosses, as_row_sync, Vec-sync, channel_state.the_sync Heap.the_row ghosts heap_sync) depth 8, tt)),
)

ports_sync : IsSync (Ports.the_row Heap.the_row ghosts)
ports_sync = view_sync _ _ _ _ _ (declared_sync (PortsInside.the_type Heap.the_row ghosts)
    (search (as_row_sync, config.the_sync), (search (as_row_sync, kept_state_sync), (search (sendable, crosses, as_row_sync) depth 12, tt))))

trial_sync : IsSync Trial.the_row
trial_sync = declared_sync Trial.the_type (search (as_row_sync, ports_sync), (search (as_row_sync, ports_sync), (search (sendable, as_row_sync) depth 12, tt)))

found_point_sync : IsSync FoundPoint.the_row
found_point_sync = declared_sync FoundPoint.the_type (search sendable, (search sendable, (search sendable, (saved_ports_sync, tt))))

pub worker_sync : IsSync Worker.the_row
worker_sync = declared_sync Worker.the_type (
  search (sendable, crosses, as_row_sync) depth 12,
  (
    search sendable,
    (
      search (sendable, crosses, as_row_sync) depth 12,
      (
        search sendable,
        (
          search (crosses, saved_ports_sync),
          (
            search (crosses, found_point_sync),
            (
              search (sendable, as_row_sync, hashes.the_sync) depth 12,
              (
                search (as_row_sync, replies.the_sync),
                (search (crosses, saved_ports_sync), (search sendable, (search (sendable, crosses, as_row_sync) depth 12, (search (as_row_sync, trial_sync), tt)))),
              ),
            ),
          ),
        ),
      ),
    ),
  ),
)

pub shared_sync : (κ : NamedLft) → IsSync (Shared.the_row κ)
shared_sync κ = declared_sync (Shared.the_type κ) (
  search (as_row_sync, heap_sync),
  (
    search (sendable, as_row_sync, config.the_sync),
    (
      search (sendable, as_row_sync, script.the_sync),
      (
        search sendable,
        (search (sendable, as_row_sync, uses.the_sync), (search (sendable, crosses, as_row_sync) depth 12, (search (sendable, as_row_sync, replies.the_sync), (search sendable, (search (sendable, crosses, as_row_sync) depth 12, tt))))),
      ),
    ),
  ),
)
