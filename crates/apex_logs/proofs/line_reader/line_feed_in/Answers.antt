use Rattle.apex_texts.proofs.SearchLemmas.{found_is_position}
use Rattle.apex_texts.specs.Text.{is_line_feed}
use Rattle.apex_logs.proofs.line_reader.line_feed_in.Goals as goal

pub returns : goal.returns
returns c = found_is_position is_line_feed c.args.text.now c.memchr.result c.memchr.ensures
