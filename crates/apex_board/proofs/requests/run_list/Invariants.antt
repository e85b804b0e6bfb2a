use Rattle.apex_board.proofs.Common.{◌≡◌, ◌≤◌, ◌+◌, ◌++◌, take, requests_of, IsLawful}
use Rattle.apex_observers.specs.Channels.{books_of}
use Rattle.apex_ports.specs.Idle.{StaysIdle}
use Rattle.apex_board.proofs.requests.run_list.Given as goal

abbrev pub invariant-loop-done : goal.invariant-loop-done
invariant-loop-done g l = record {
  config : l.board.config ≡ l.fn.board.config;
  lawful : IsLawful l.board.config l.board.log;
  requests : requests_of l.board.log ≡ requests_of l.fn.board.log ++ take l.done l.requests;
  room : l.fn.board.room ≤ l.board.room + l.done;
  channels : books_of l.board.published ≡ books_of l.fn.board.published;
  idle : StaysIdle l.fn.board.config l.fn.board.log l.board.log;
}
