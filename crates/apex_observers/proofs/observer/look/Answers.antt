use Rattle.std.proofs.Common.{refl}
use Rattle.apex_observers.proofs.Following.{turns}
use Rattle.apex_observers.proofs.observer.look.Goals as goal

pub enter_as-requires : goal.enter_as-requires
enter_as-requires g c version = turns _ _ version version refl
