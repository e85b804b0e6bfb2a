-- Lines of a text that is read piece by piece.
use Rattle.apex_logs.proofs.Common.{◌≡◌, ℕ, ◌+◌, ◌<◌, ◌≤◌, Bool, true, false, not, eqb, eqb-true, List, [], ◌∷◌, ◌++◌, length, take, drop, get_or, Option, Some, None, Result, Ok, Err, IfOk, refl, sym, ap, ◌∙◌, subst, arith, append_assoc, append-nil, drop_of_length-le, position, option_map, Keeps, Consumes, IsAtEnd, prepend_known, lines, lines_of_parts, strip_carriage_return, is_line_feed, position_found}
use Rattle.apex_logs.proofs.Common.{position_missed, HasNoLineFeed, IsNextLine, IsPart}
use Rattle.std.specs.List.{slice_split, position_or_len, before_first, after_first}
use Rattle.std.proofs.lemmas.List.Elements.{All-append}
use Rattle.std.proofs.lemmas.List.Sums.{fails_before_first, passes_at_first, split_at_first}
use Rattle.std.proofs.lemmas.List.Splits.{slice_split_at, slice_split_none, length-slice_split}
use Rattle.std.proofs.lemmas.Grind.{common_steps}

-- ---- a part of a text

module _ (text : List ℕ) where
  -- without a line feed
  pub has_none : position is_line_feed text ≡ None → HasNoLineFeed text
  has_none missed = λ k d lt. fails_before_first is_line_feed text k d (omega (arith, position_missed is_line_feed text missed))

  -- before the first line feed
  pub none_before : HasNoLineFeed (before_first is_line_feed text)
  none_before = λ k d lt. let fails = fails_before_first is_line_feed text k d (grind (arith, common_steps)) in grind (arith, common_steps)

  pub is_part : (i : ℕ) → position is_line_feed text ≡ Some i → (part : List ℕ) × (take i text ≡ part) × HasNoLineFeed part × (text ≡ part ++ 10 ∷ drop (i + 1) text)
  is_part i found =
      let found_at = position_found is_line_feed text i found in
      let feed : get_or text (position_or_len is_line_feed text) 0 ≡ 10 = eqb-true _ _ (passes_at_first is_line_feed text 0 found_at.0) in
      let cut : text ≡ before_first is_line_feed text ++ 10 ∷ after_first is_line_feed text =
      split_at_first is_line_feed text 0 found_at.0 ∙ ap (λ byte. before_first is_line_feed text ++ byte ∷ after_first is_line_feed text) feed in
      (before_first is_line_feed text, ap (λ n. take n text) found_at.1, none_before, rw found_at.1 cut)

-- ---- pieces

-- the next piece, after the one before is used up
pub refilled : (old new : Option (List ℕ)) (start : ℕ) (used piece : List ℕ) → length used ≤ start → Consumes old new piece → Keeps (prepend_known (drop start used) old) (prepend_known piece new)
refilled None new start used piece is_used read = tt
refilled (Some xs) None start used piece is_used read = absurd read
refilled (Some xs) (Some ys) start used piece is_used read = sym read ∙ ap (λ bytes. bytes ++ xs) (sym (drop_of_length-le used is_used))

-- a line took a part of what is left
pub moved : (entry rest : Option (List ℕ)) (line text part left : List ℕ) → Consumes entry (prepend_known text rest) line → text ≡ part ++ left → Consumes entry (prepend_known left rest) (line ++ part)
moved None rest line text part left read cut = tt
moved (Some xs) None line text part left read cut = absurd read
moved (Some xs) (Some ys) line text part left read cut =
    read ∙ ap (λ bytes. line ++ (bytes ++ ys)) cut ∙ ap (λ bytes. line ++ bytes) (append_assoc part left ys) ∙ sym (append_assoc line part (left ++ ys))

pub kept : (entry before after : Option (List ℕ)) (line : List ℕ) → Consumes entry before line → Keeps before after → Consumes entry after line
kept None before after line read keeps = tt
kept (Some xs) None after line read keeps = absurd read
kept (Some xs) (Some ys) None line read keeps = absurd keeps
kept (Some xs) (Some ys) (Some zs) line read keeps = read ∙ ap (λ bytes. line ++ bytes) (sym keeps)

-- ---- lines

parts-cons : (x : List ℕ) (parts : List (List ℕ)) → 0 < length parts → lines_of_parts (x ∷ parts) ≡ strip_carriage_return x ∷ lines_of_parts parts
parts-cons x [] h = absurd (omega arith)
parts-cons x (y ∷ more) h = refl

lines_at : (line rest : List ℕ) → HasNoLineFeed line → lines (line ++ 10 ∷ rest) ≡ strip_carriage_return line ∷ lines rest
lines_at line rest none =
    ap lines_of_parts (slice_split_at is_line_feed line 10 rest none refl) ∙ parts-cons line (slice_split is_line_feed rest) (omega (arith, length-slice_split is_line_feed rest))

-- a line feed ends the line
ends : (entry rest : Option (List ℕ)) (line : List ℕ) (left : List ℕ) → HasNoLineFeed line → Consumes entry (prepend_known (10 ∷ left) rest) line → IsNextLine true (strip_carriage_return line) (option_map lines entry) (option_map lines (prepend_known left rest))
ends None rest line left none read = tt
ends (Some xs) None line left none read = absurd read
ends (Some xs) (Some ys) line left none read = ap lines read ∙ lines_at line (left ++ ys) none

-- a part of the text does
pub cut_line : (entry rest : Option (List ℕ)) (line after text : List ℕ) (taken : ℕ) → HasNoLineFeed line → Consumes entry (prepend_known text rest) line → IsPart line after text taken true
    → IsNextLine true (strip_carriage_return after) (option_map lines entry) (option_map lines (prepend_known (drop taken text) rest))
cut_line entry rest line after text taken none read (part, is, none_after, cut) =
    rw is (ends entry rest (line ++ part) (drop taken text) (All-append (λ byte. is_line_feed byte ≡ false) line part none none_after) (moved entry rest line text part (10 ∷ drop taken text) read cut))

lines_last : (line : List ℕ) (b : Bool) → eqb (length line) 0 ≡ b → HasNoLineFeed line → IsNextLine (not b) line (Some (lines line)) (Some [])
lines_last line true empty none = ap lines_of_parts (slice_split_none is_line_feed line none) ∙ rw empty refl
lines_last line false some none = ap lines_of_parts (slice_split_none is_line_feed line none) ∙ rw some refl

-- the text ends
pub ends_last : (entry now : Option (List ℕ)) (line : List ℕ) (b : Bool) → eqb (length line) 0 ≡ b → HasNoLineFeed line → Consumes entry now line → IsAtEnd now → IsNextLine (not b) line (option_map lines entry) (option_map lines now)
ends_last None now line true is none read end = tt
ends_last None now line false is none read end = tt
ends_last (Some xs) None line b is none read end = absurd read
ends_last (Some xs) (Some ys) line b is none read end =
    let whole : xs ≡ line = read ∙ ap (λ bytes. line ++ bytes) end ∙ append-nil line in
    rw (whole, end) (lines_last line b is none)

-- an answer that is known
pub answered : {E : Type 0} (answer : Result Bool E) (P : Bool → Type 0) (found : Bool) → IfOk answer (λ x. x ≡ found) → P found → IfOk answer P
answered (Ok x) P found is holds = subst P (sym is) holds
answered (Err e) P found is holds = tt
