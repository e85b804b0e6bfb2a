use Rattle.apex_texts.proofs.SearchLemmas.{found_is_position}
use Rattle.apex_logs.specs.LogLine.{is_bracket}
use Rattle.apex_logs.proofs.log_line.bracket_in.Goals as goal

pub returns : goal.returns
returns c = found_is_position is_bracket c.args.text.now c.memchr.result c.memchr.ensures
