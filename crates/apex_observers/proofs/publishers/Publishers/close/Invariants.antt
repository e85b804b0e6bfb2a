use Rattle.std.specs.Vec.{vec_len}
use Rattle.apex_observers.proofs.publishers.Publishers.close.Given as goal

abbrev pub decreases-loop-entry : goal.decreases-loop-entry
decreases-loop-entry g l = vec_len l.list
