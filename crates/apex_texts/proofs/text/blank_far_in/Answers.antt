use Rattle.apex_texts.proofs.SearchLemmas.{found_is_position}
use Rattle.apex_texts.specs.Text.{is_blank}
use Rattle.apex_texts.proofs.text.blank_far_in.Goals as goal

pub returns-clause-found : goal.returns-clause-found
returns-clause-found c = found_is_position is_blank c.args.line.now c.memchr2.result c.memchr2.ensures
