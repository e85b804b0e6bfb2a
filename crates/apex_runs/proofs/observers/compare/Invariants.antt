use Rattle.std.proofs.Common.{◌≡◌, map}
use Rattle.apex_runs.specs.Observers.{sampling_before}
use Rattle.apex_runs.proofs.ObserverLemmas.{Shown}
use Rattle.apex_runs.proofs.observers.compare.Given as goal

abbrev pub invariant-loop-c : goal.invariant-loop-c
invariant-loop-c g l = record {
  channels : map (λ known. known.channel) l.observers ≡ map (λ known. known.channel) l.fn.observers;
  index : l.index ≡ sampling_before l.ports.config l.c;
  shown : Shown l.ports.config l.ports.history l.observers l.c;
}
