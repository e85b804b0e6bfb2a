use Rattle.std.proofs.Common.{◌≡◌, length}
use Rattle.apex_threads.specs.Steps.{IsBetweenCalls, IsOfSameWorker}
use Rattle.apex_threads.proofs.worker.make_calls.Given as goal

abbrev pub invariant-loop-done : goal.invariant-loop-done
invariant-loop-done g l = record {
  count : length l.replies ≡ l.done;
  steps : IsBetweenCalls l.steps l.done;
  same : IsOfSameWorker l.initial.steps l.steps;
}
