-- The place of a line's fault: the number of its word, and its column. The words before the call word, which differ
-- between traces and scripts, are a parameter.
use Rattle.std.specs.Prelude.{ℕ, zero, suc, ◌+◌, ◌-◌, not, if◌then◌else◌, List, [], ◌∷◌, ◌++◌, length, take, drop, slice_index_or, position, unwrap_or, Option, Some, None}
use Rattle.apex_mistakes.specs.Prelude.{Expected, LineFault, is_blank, words_of, is_ascii}
use Rattle.std.specs.List.{position_or_len}
use Rattle.apex_texts.specs.declared.expected.Expected.TheVariants as kinds
use Rattle.apex_texts.specs.declared.line_fault.LineFault.TheVariants as faults
use Rattle.apex_mistakes.specs.declared.line_place.LinePlace.{LinePlace}
use Rattle.apex_texts.specs.declared.service.Service.{Service}
use Rattle.apex_texts.specs.Service.{service_named, parameters_of}
use Rattle.apex_texts.specs.Expected.{is_argument}

-- a line, starting at its first word
abbrev pub from_first_word : List ℕ → List ℕ
from_first_word line = drop (position_or_len (λ byte. not (is_blank byte)) line) line

-- a line after its first word
abbrev pub behind_first_word : List ℕ → List ℕ
behind_first_word line = drop (position_or_len is_blank (from_first_word line)) (from_first_word line)

-- a line, starting at the word after this number of others; nothing if there is none
abbrev pub from_word_at : ℕ → List ℕ → List ℕ
from_word_at zero line = from_first_word line
from_word_at (suc before) line = from_word_at before (behind_first_word line)

-- the column, from 1, of the word after this number of others; the line's end if there is none
abbrev pub column_of : ℕ → List ℕ → ℕ
column_of before line = length line - length (from_word_at before line) + 1

-- what the arguments of a service must be; a word that names no service has none
abbrev pub parameters_named : Option Service → List Expected
parameters_named None = []
parameters_named (Some service) = parameters_of service

-- what the arguments after a call word must be
abbrev pub parameters_at : List (List ℕ) → List Expected
parameters_at [] = []
parameters_at (call ∷ arguments) = parameters_named (service_named call)

-- what each word of a line must be
abbrev pub words_expected : List Expected → List (List ℕ) → List Expected
words_expected front words = front ++ kinds.Service ∷ parameters_at (drop (length front) words)

-- the number of words before the first that isn't the argument that it must be
abbrev pub misfit : List Expected → List (List ℕ) → ℕ
misfit [] words = 0
misfit (parameter ∷ parameters) [] = 0
misfit (parameter ∷ parameters) (word ∷ words) = if is_argument parameter word then 1 + misfit parameters words else 0

-- the number of words before the faulty one in an ASCII line; a missing word comes after all others
abbrev pub words_before : List Expected → LineFault → List (List ℕ) → ℕ
words_before front faults.Moment words = 0
words_before front faults.Partition words = 1
words_before front faults.UnknownCall words = length front
words_before front faults.TooFewWords words = length words
words_before front faults.TooManyWords words = length (words_expected front words)
words_before front _ words = length front + 1 + misfit (parameters_at (drop (length front) words)) (drop (length front + 1) words)

-- the place of a fault in the line with this number
abbrev pub place_in : List Expected → ℕ → LineFault → List ℕ → LinePlace
place_in front number faults.NotAscii line =
    let bytes = unwrap_or (position (λ byte. not (is_ascii byte)) line) (length line) in
    record { line = number; fault = faults.NotAscii; word = length (words_of (take (bytes + 1) line)); column = bytes + 1; expected = kinds.Ascii }
place_in front number fault line =
    let before = words_before front fault (words_of line) in
    record { line = number; fault = fault; word = before + 1; column = column_of before line; expected = slice_index_or (words_expected front (words_of line)) before kinds.EndOfLine }
