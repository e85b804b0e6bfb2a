-- Lines and words of a text, taken from the front one by one.
use Rattle.apex_texts.proofs.Common.{◌≡◌, ℕ, suc, ◌+◌, ◌-◌, ◌<◌, ◌≤◌, Bool, true, false, not, eqb, List, [], ◌∷◌, length, take, drop, get_or, Some, None, refl, sym, ap, ◌∙◌, arith, add-one, add-zero, drop-cons, filter, position, slice_split, position_or_len, before_first, after_first, lines, lines_of_parts, strip_carriage_return, length-take, length-drop, get_or-drop, drop-drop, fails_before_first, passes_at_first}
use Rattle.apex_texts.proofs.Common.{is_line_feed, is_blank, words_of}
use Rattle.std.proofs.Math.ListN.{drop_of_length-le}
use Rattle.std.proofs.lemmas.List.Splits.{slice_split-cons_yes, slice_split_none, slice_split_first, length-slice_split}

-- if `position` finds an index, it is that of the first element that passes
pub position_found : {X : Type 0} (p : X → Bool) (xs : List X) (i : ℕ) → position p xs ≡ Some i → (position_or_len p xs < length xs) × (i ≡ position_or_len p xs)
position_found p xs i found = grind (arith, found)

pub position_missed : {X : Type 0} (p : X → Bool) (xs : List X) → position p xs ≡ None → length xs ≤ position_or_len p xs
position_missed p xs missed = grind (arith, missed)

-- ---- lines

parts-cons : (x : List ℕ) (parts : List (List ℕ)) → 0 < length parts → lines_of_parts (x ∷ parts) ≡ strip_carriage_return x ∷ lines_of_parts parts
parts-cons x [] h = absurd (omega arith)
parts-cons x (y ∷ more) h = refl

-- the first line ends at the first line feed
pub lines_at : (text : List ℕ) (i : ℕ) → position is_line_feed text ≡ Some i → lines text ≡ strip_carriage_return (take i text) ∷ lines (drop (i + 1) text)
lines_at text i found =
    let found_at = position_found is_line_feed text i found in
    let first = slice_split_first is_line_feed text 0 found_at.0 in
    rw found_at.1 (ap lines_of_parts first ∙ parts-cons (before_first is_line_feed text) (slice_split is_line_feed (after_first is_line_feed text)) (omega (arith, length-slice_split is_line_feed (after_first is_line_feed text))))

-- without a line feed the text is its one line
pub lines_last : (text : List ℕ) → eqb (length text) 0 ≡ false → position is_line_feed text ≡ None → lines text ≡ text ∷ []
lines_last text some missed =
    let none = slice_split_none is_line_feed text (λ k d lt. fails_before_first is_line_feed text k d (omega (arith, position_missed is_line_feed text missed))) in
    ap lines_of_parts none ∙ rw some refl

-- ---- words

-- leading blanks contain no word
words-blank : (byte : ℕ) (rest : List ℕ) → is_blank byte ≡ true → words_of (byte ∷ rest) ≡ words_of rest
words-blank byte rest blank = rw (slice_split-cons_yes is_blank byte rest blank) refl

words_skip_by : (byte : ℕ) (rest : List ℕ) (b : Bool) → is_blank byte ≡ b → words_of (drop (position_or_len (λ byte. not (is_blank byte)) rest) rest) ≡ words_of rest
    → words_of (drop (position_or_len (λ byte. not (is_blank byte)) (byte ∷ rest)) (byte ∷ rest)) ≡ words_of (byte ∷ rest)
words_skip_by byte rest true blank after =
    let next : 1 + position_or_len (λ byte. not (is_blank byte)) rest ≡ suc (position_or_len (λ byte. not (is_blank byte)) rest) = omega arith in
    rw (blank, next) after
words_skip_by byte rest false blank after =
    let here : position_or_len (λ byte. not (is_blank byte)) (byte ∷ rest) ≡ 0 = rw blank refl in
    ap (λ (n : ℕ). words_of (drop n (byte ∷ rest))) here

pub words_skip : (line : List ℕ) → words_of (drop (position_or_len (λ byte. not (is_blank byte)) line) line) ≡ words_of line
words_skip [] = refl
words_skip (byte ∷ rest) = words_skip_by byte rest (is_blank byte) refl (words_skip rest)

starts : (line : List ℕ) → 0 < length line → is_blank (get_or line 0 0) ≡ false → 0 < position_or_len is_blank line
starts [] some word = absurd (omega arith)
starts (byte ∷ rest) some word = rw word (omega arith)

-- a word has a byte
pub word_some : (line : List ℕ) (end : ℕ) → 0 < length line → is_blank (get_or line 0 0) ≡ false → position is_blank line ≡ Some end → 0 < end
word_some line end some word found = omega (arith, starts line some word, position_found is_blank line end found)

-- a first part that isn't empty is the first word
part-word : (part : List ℕ) (parts : List (List ℕ)) → 0 < length part → filter (λ part. not (eqb (length part) 0)) (part ∷ parts) ≡ part ∷ filter (λ part. not (eqb (length part) 0)) parts
part-word part parts some =
    let long : eqb (length part) 0 ≡ false = grind (arith, some) in
    rw long refl

-- a word ends at the first blank after it
pub words_at : (line : List ℕ) (end : ℕ) → 0 < length line → is_blank (get_or line 0 0) ≡ false → position is_blank line ≡ Some end → words_of line ≡ take end line ∷ words_of (drop end line)
words_at line end some word found =
    let found_at = position_found is_blank line end found in
    let first = slice_split_first is_blank line 0 found_at.0 in
    let long : 0 < length (before_first is_blank line) = omega (arith, length-take (position_or_len is_blank line) line, starts line some word) in
    let at : drop (position_or_len is_blank line) line ≡ get_or line (position_or_len is_blank line) 0 ∷ after_first is_blank line = rw add-one (drop-cons line (position_or_len is_blank line) 0 found_at.0) in
    let skip : words_of (drop (position_or_len is_blank line) line) ≡ words_of (after_first is_blank line) = ap words_of at ∙ words-blank (get_or line (position_or_len is_blank line) 0) (after_first is_blank line) (passes_at_first is_blank line 0 found_at.0) in
    rw (found_at.1, skip) (ap (λ parts. filter (λ part. not (eqb (length part) 0)) parts) first ∙ part-word (before_first is_blank line) (slice_split is_blank (after_first is_blank line)) long)

-- a word that no blank follows is the whole line
pub words_last : (line : List ℕ) → 0 < length line → is_blank (get_or line 0 0) ≡ false → position is_blank line ≡ None → words_of line ≡ line ∷ []
words_last line some word missed =
    let none = slice_split_none is_blank line (λ k d lt. fails_before_first is_blank line k d (omega (arith, position_missed is_blank line missed))) in
    ap (λ parts. filter (λ part. not (eqb (length part) 0)) parts) none ∙ part-word line [] some

not-true : (b : Bool) → not b ≡ true → b ≡ false
not-true true h = absurd cc
not-true false h = refl

-- the line from its first word on
pub record FromWord (line rest : List ℕ) : Type 0 where
  pub some : 0 < length rest
  pub word : is_blank (get_or rest 0 0) ≡ false
  pub same : words_of rest ≡ words_of line

pub from_word : (line rest : List ℕ) (start : ℕ) → position (λ byte. not (is_blank byte)) line ≡ Some start → rest ≡ drop start line → FromWord line rest
from_word line rest start found is =
    let found_at = position_found (λ byte. not (is_blank byte)) line start found in
    let is' : rest ≡ drop (position_or_len (λ byte. not (is_blank byte)) line) line = is ∙ ap (λ (n : ℕ). drop n line) found_at.1 in
    let passes = passes_at_first (λ byte. not (is_blank byte)) line 0 found_at.0 in
    record {
      some = omega (arith, ap length is', length-drop (position_or_len (λ byte. not (is_blank byte)) line) line);
      word = rw (is', get_or-drop, add-zero) (not-true (is_blank (get_or line (position_or_len (λ byte. not (is_blank byte)) line) 0)) passes);
      same = rw is' (words_skip line);
    }

pub words_none : (line : List ℕ) → position (λ byte. not (is_blank byte)) line ≡ None → words_of line ≡ []
words_none line missed = sym (words_skip line) ∙ ap words_of (drop_of_length-le line (position_missed (λ byte. not (is_blank byte)) line missed))

-- the first word of a line, by where it starts and its length
pub words_between : (line rest : List ℕ) (start len : ℕ) → position (λ byte. not (is_blank byte)) line ≡ Some start → rest ≡ drop start line
    → words_of rest ≡ take len rest ∷ words_of (drop len rest) → words_of line ≡ take (start + len - start) (drop start line) ∷ words_of (drop (start + len) line)
words_between line rest start len found is cut =
    let from = from_word line rest start found is in
    let width : start + len - start ≡ len = omega arith in
    let after : drop len rest ≡ drop (start + len) line = ap (drop len) is ∙ drop-drop len start line in
    let first : take len rest ≡ take len (drop start line) = ap (take len) is in
    rw width (sym from.same ∙ cut ∙ (λ i. first i ∷ words_of (after i)))
