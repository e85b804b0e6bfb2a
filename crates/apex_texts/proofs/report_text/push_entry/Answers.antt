use Rattle.apex_texts.proofs.Common.{rules, append_assoc, IfOk-equal, entry_line}
use Rattle.apex_texts.proofs.report_text.push_entry.Goals as goal

pub returns : goal.returns
unfolding entry_line
returns c = search (rules, IfOk-equal, append_assoc)
