use Rattle.apex_texts.proofs.ReportLemmas.{cleared_exact}
use Rattle.apex_texts.proofs.report_text.cleared_from.Goals as goal

pub returns : goal.returns
returns c = cleared_exact c.args.ports.now.config c.args.c c.args.ports.now.history c.cleared_count.result c.requires.short c.cleared_count.ensures.accepted c.cleared_count.ensures.count
