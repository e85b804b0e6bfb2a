-- Threads may share a locked board with its observers if they may share its allocator.
use denote.RattleType.{RattleType}
use denote.Param.Send.{IsSend, IsSync, sendable, view_send}
use denote.Param.SendFields.{declared_send, declared_sync, variants_send, as_row_send}
use Rattle.std.specs.declared.alloc.Allocator.{Ghosts}
use Rattle.std.proofs.Crossing.{crosses}
use Rattle.std_alloc.proofs.SendSync.{FreesAnywhere, Vec-send}
use Rattle.apex_ports.proofs.Crossing.{Ports-send}
use Rattle.apex_board.proofs.records.Records.TheSendSync as records
use Rattle.apex_types.proofs.sample.Sample.TheSendSync as sample
use Rattle.apex_observers.proofs.observer.Observer.TheSendSync as observer
use Rattle.apex_observers.proofs.publishers.Publishers.TheSendSync as publishers
use Rattle.apex_board.specs.contracts.board.Board as Board
use Rattle.apex_board.specs.contracts.board.Board.TheInside as BoardInside
use Rattle.apex_observers.specs.contracts.observer.Observer as Observer
use Rattle.apex_workers.specs.contracts.observed.LockedObservedBoard as LockedObservedBoard
use Rattle.apex_workers.specs.contracts.observed.ObservedBoard as ObservedBoard
use Rattle.apex_workers.specs.contracts.observed.ObservedBoard.TheInside as ObservedInside

module _ (A : RattleType) (g : Ghosts A.Denot) (s : IsSend A) (y : IsSync A) (f : FreesAnywhere A.Denot g) where
  Board-send : IsSend (Board.the_row A g)
  Board-send = view_send _ _ _ _ _ (declared_send (BoardInside.the_type A g) (Ports-send A g s f, (records.the_send A g s f, (search (sendable, as_row_send, Vec-send, variants_send, sample.the_send) depth 8, (publishers.the_send A g s y f, tt)))))

  Observer-send : IsSend (Observer.the_row A g)
  Observer-send = observer.the_send A g s y f

  Observed-send : IsSend (ObservedBoard.the_row A g)
  Observed-send = view_send _ _ _ _ _ (declared_send (ObservedInside.the_type A g) (Board-send, (search (as_row_send, Vec-send, Observer-send), tt)))

  pub LockedObservedBoard-sync : IsSync (LockedObservedBoard.the_row A g)
  LockedObservedBoard-sync = declared_sync (LockedObservedBoard.the_type A g) (search (crosses, Observed-send), tt)
