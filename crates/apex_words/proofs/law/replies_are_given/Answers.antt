use Rattle.apex_words.proofs.ReplyLemmas.{replies_given}
use Rattle.apex_words.proofs.law.replies_are_given.Goals as goal

pub returns : goal.returns
returns c = replies_given
