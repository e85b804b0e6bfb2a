use Rattle.apex_texts.proofs.KnownLemmas.{trace-known}
use Rattle.apex_texts.proofs.trace.read_trace.Goals as goal

pub returns-clause-known : goal.returns-clause-known
returns-clause-known c = trace-known c.args.config.now c.args.text.now c.read_lines.result c.read_lines.ensures
