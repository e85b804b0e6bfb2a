-- The calls of scripts, each with its line and the replies that it can get.
use Rattle.std.specs.Prelude.{ℕ, Bool, ◌==◌, ◌&&◌, List, [], filter, map, slice_get, unwrap_or, Option, Some, None}
use Rattle.dekarino_texts.specs.Prelude.{Reply}
use Rattle.apex_orders.specs.declared.replies.PossibleReply.{PossibleReply}
use Rattle.dekarino_texts.specs.declared.script_lines.LineNumbers.{LineNumbers}

-- ---- replies

-- whether it is a reply to the call at the index of the partition's script
abbrev pub is_to : ℕ → ℕ → PossibleReply → Bool
is_to p index one = (one.partition == p) && (one.index == index)

-- the replies to the call at the index of the partition's script, in their order
abbrev pub replies_to : ℕ → ℕ → List PossibleReply → List Reply
replies_to p index found = map (λ one. one.reply) (filter (is_to p index) found)

-- ---- lines

-- the number at an index; 0 if there is none
abbrev pub line_at : List ℕ → ℕ → ℕ
line_at numbers index = unwrap_or (slice_get numbers index) 0

-- those of the lines of one script
abbrev pub numbers_in : Option LineNumbers → List ℕ
numbers_in None = []
numbers_in (Some lines) = lines.numbers.items

-- the numbers of the lines of a partition's calls; none if there are none for it
abbrev pub numbers_of : List LineNumbers → ℕ → List ℕ
numbers_of lines p = numbers_in (slice_get lines p)
