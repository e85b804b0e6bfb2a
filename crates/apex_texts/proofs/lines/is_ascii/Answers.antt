use Rattle.apex_texts.proofs.SearchLemmas.{ascii_test}
use Rattle.apex_texts.proofs.lines.is_ascii.Goals as goal

pub returns : goal.returns
returns c = ascii_test c.args.line.now c.is_ascii.result c.is_ascii.ensures.cases
