use Rattle.apex_c.proofs.RefusedCalls.{refused_leaves_seen}
use Rattle.apex_c.proofs.law.refused_leaves_seen.Goals as goal

pub returns : goal.returns
returns c = refused_leaves_seen
