use Rattle.std.proofs.Common.{◌≡◌}
use Rattle.apex_observers.specs.Channels.{books_of}
use Rattle.apex_board_tests.proofs.tests.observers.fill_log.Given as goal

abbrev pub invariant-loop : goal.invariant-loop
invariant-loop g l = books_of l.board.published ≡ books_of l.fn.board.published
