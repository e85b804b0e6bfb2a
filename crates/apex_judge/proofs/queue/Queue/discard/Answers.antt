use Rattle.apex_judge.proofs.Common.{drop, ap, ◌∙◌, drop-drop}
use Rattle.apex_judge.proofs.queue.Queue.discard.Goals as goal

pub loop-preserved : goal.loop-preserved
loop-preserved g c =
    c.discard_oldest.ensures ∙ (ap (drop 1) c.loop.invariant ∙ drop-drop 1 c.loop.counter c.args.self.now)
