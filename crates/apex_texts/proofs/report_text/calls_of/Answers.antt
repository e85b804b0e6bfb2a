use Rattle.apex_texts.proofs.ReportLemmas.{calls_exact}
use Rattle.apex_texts.proofs.report_text.calls_of.Goals as goal

pub returns : goal.returns
returns c = calls_exact c.args.p c.args.ports.now.history c.calls.result c.requires.short c.calls.ensures
