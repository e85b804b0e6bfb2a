-- What a log shows to each partition, lawful or not, and what the standard then has for a call.
use Rattle.std.specs.Prelude.{ℕ, List}
use Rattle.apex_judge.specs.Prelude.{Call, Moment, Reply, Configuration, Row, History, Seen}
use Rattle.apex_judge.specs.Picture.{seen_in, row_in, reply_in}
use Rattle.apex_judge.specs.Steps.{picture_of}

-- what the partition sees in the picture that the log gives
abbrev pub shown : Configuration → History → ℕ → Seen
shown config log partition = seen_in config (picture_of config log) partition

-- what waits on the channel
abbrev pub waiting_shown : Configuration → ℕ → History → List (List ℕ)
waiting_shown config channel log = (picture_of config log).waiting channel

-- the row of the reply table that the call gets after the log
abbrev pub row_shown : Configuration → History → ℕ → Moment → Call → Row
row_shown config log p at call = row_in config (picture_of config log) p at call

-- the reply of that row
abbrev pub reply_shown : Configuration → History → ℕ → Moment → Call → Reply
reply_shown config log p at call = reply_in config (picture_of config log) p at call
