use Rattle.apex_texts.proofs.ReportLemmas.{received_exact}
use Rattle.apex_texts.proofs.report_text.received_from.Goals as goal

pub returns : goal.returns
returns c = received_exact c.args.ports.now.config c.args.c c.args.ports.now.history c.received_count.result c.requires.short c.received_count.ensures
