use Rattle.std.proofs.Common.{codes}
use Rattle.memchr.proofs.lemmas.ValueLemmas.{FindsNeedle-value}
use Rattle.apex_logs.proofs.log_line.arrow_in.Goals as goal

pub returns-clause-found : goal.returns-clause-found
returns-clause-found c = FindsNeedle-value c.args.line.now (codes "->") c.find.result c.find.ensures
