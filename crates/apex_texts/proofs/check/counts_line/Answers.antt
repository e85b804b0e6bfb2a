use Rattle.apex_texts.proofs.CheckLemmas.{counts_text}
use Rattle.apex_texts.proofs.check.counts_line.Goals as goal

pub returns : goal.returns
returns c = counts_text c.args.partitions c.args.ports c.args.channels c.format.result c.format.ensures.ok
