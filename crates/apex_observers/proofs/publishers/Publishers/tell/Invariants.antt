use Rattle.std.proofs.Common.{◌≡◌, ◌<◌, ℕ, length, take, slice_get, Some}
use mathlib.Core.List.{IsPrefix}
use Rattle.apex_observers.specs.Published.{Published}
use Rattle.apex_observers.specs.Channels.{AreObservers, sampling_of}
use Rattle.apex_observers.proofs.publishers.Publishers.tell.Given as goal

abbrev pub invariant-loop-entry : goal.invariant-loop-entry
invariant-loop-entry g l = record {
  observers : AreObservers l.self l.observers;
  index : l.index ≡ length (sampling_of (take l.entry-index l.self));
  learned : (k : ℕ) (published known : Published) → k < l.index → slice_get (sampling_of l.self) k ≡ Some published → slice_get l.observers k ≡ Some known → IsPrefix published.writes known.writes;
}
