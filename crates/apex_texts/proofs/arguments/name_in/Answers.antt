use Rattle.std.proofs.Common.{sym}
use Rattle.apex_texts.proofs.AsciiLemmas.{name_missed}
use Rattle.apex_texts.proofs.arguments.name_in.Goals as goal

pub returns-in_default : goal.returns-in_default
returns-in_default c = sym (name_missed c.args.word.now c.in_default.ensures.cases.0)
