use Rattle.apex_texts.proofs.ReportLemmas.{accepted_exact}
use Rattle.apex_texts.proofs.report_text.accepted_by.Goals as goal

pub returns : goal.returns
returns c = accepted_exact c.args.ports.now.config c.args.c c.args.ports.now.history c.accepted_count.result c.requires.short c.accepted_count.ensures
