use Rattle.std.proofs.Common.{◌≡◌}
use Rattle.apex_board_tests.proofs.tests.versions.writes_without_memory.Given as goal

abbrev pub invariant-loop-turn : goal.invariant-loop-turn
invariant-loop-turn g l = l.observer.channel ≡ l.publisher.channel
