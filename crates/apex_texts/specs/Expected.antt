-- Whether a word is valid as an argument.
use Rattle.std.specs.Prelude.{ℕ, Bool, List, is_some}
use Rattle.apex_texts.specs.declared.arguments.TheConstants.{MOMENT_LIMIT, NUMBER_LIMIT}
use Rattle.apex_texts.specs.declared.expected.Expected.{Expected}
use Rattle.apex_texts.specs.declared.expected.Expected.TheVariants.{Name, Refresh, Message}
use Rattle.apex_texts.specs.Text.{number_up_to}
use Rattle.apex_texts.specs.Arguments.{name_in, message_in}

-- whether a word is what an argument must be
abbrev pub is_argument : Expected → List ℕ → Bool
is_argument Name word = is_some (name_in word)
is_argument Message word = is_some (message_in word)
is_argument Refresh word = is_some (number_up_to MOMENT_LIMIT word)
is_argument _ word = is_some (number_up_to NUMBER_LIMIT word)
