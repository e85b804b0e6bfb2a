use Rattle.std.proofs.Common.{◌≡◌}
use Rattle.apex_ports.specs.Sound.{IsSound}
use Rattle.dekarino_search.proofs.occurrences.order_text.Given as goal

abbrev pub invariant-loop-p : goal.invariant-loop-p
invariant-loop-p l = record { config : l.ports.config ≡ l.config; sound : IsSound l.ports.config l.ports.history }
