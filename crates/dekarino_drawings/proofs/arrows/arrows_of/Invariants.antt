use Rattle.dekarino_drawings.proofs.Common.{◌≡◌, ◌++◌, drop, take, arrows_after, arrows_of, AreFollowed}
use Rattle.dekarino_drawings.proofs.arrows.arrows_of.Given as goal

abbrev pub invariant-loop-index : goal.invariant-loop-index
invariant-loop-index l = record {
  arrows : l.arrows.items ++ arrows_after l.config (take l.index l.calls) (drop l.index l.calls) ≡ arrows_of l.config l.calls;
  followed : AreFollowed l.config (take l.index l.calls) l.channels.items;
}
