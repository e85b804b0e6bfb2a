-- The ends of a text's lines.
use Rattle.std.proofs.Common.{◌≡◌, ℕ, suc, ◌+◌, ◌-◌, ◌<◌, ◌≤◌, ◌==◌, Bool, true, false, cond, List, [], ◌∷◌, ◌++◌, length, drop, get_or, sym, ap, ◌∙◌, arith, append_assoc}
use Rattle.std.proofs.Math.Seq.{drop-cons}
use Rattle.std.proofs.lemmas.List.{take_all}
use Rattle.apex_refusals.specs.PlaceLines.{line_ends, first_lines}

module _ (text : List ℕ) (offset byte : ℕ) (within : offset < length text) (here : get_or text offset byte ≡ byte) where
  next : drop offset text ≡ byte ∷ drop (offset + 1) text
  next =
      drop-cons text offset byte within
      ∙ (ap (λ (b : ℕ). b ∷ drop (suc offset) text) here ∙ ap (λ (n : ℕ). byte ∷ drop n text) (let same : suc offset ≡ offset + 1 = omega arith in same))

  -- the ends so far, and those from an offset on, if a line ends there
  pub end_here : (ends : List ℕ) → (byte == 10) ≡ true → ends ++ line_ends offset (drop offset text) ≡ line_ends 0 text
      → (ends ++ offset ∷ []) ++ line_ends (offset + 1) (drop (offset + 1) text) ≡ line_ends 0 text
  end_here ends is so_far =
      append_assoc ends (offset ∷ []) (line_ends (offset + 1) (drop (offset + 1) text))
      ∙ (ap (λ (b : Bool). ends ++ cond b (offset ∷ line_ends (offset + 1) (drop (offset + 1) text)) (line_ends (offset + 1) (drop (offset + 1) text))) (sym is)
      ∙ (ap (λ (rest : List ℕ). ends ++ line_ends offset rest) (sym next) ∙ so_far))

  -- the same, if no line ends there
  pub no_end_here : (ends : List ℕ) → (byte == 10) ≡ false → ends ++ line_ends offset (drop offset text) ≡ line_ends 0 text
      → ends ++ line_ends (offset + 1) (drop (offset + 1) text) ≡ line_ends 0 text
  no_end_here ends is so_far =
      ap (λ (b : Bool). ends ++ cond b (offset ∷ line_ends (offset + 1) (drop (offset + 1) text)) (line_ends (offset + 1) (drop (offset + 1) text))) (sym is)
      ∙ (ap (λ (rest : List ℕ). ends ++ line_ends offset rest) (sym next) ∙ so_far)

-- the last line ends where the text does
pub some_end : (offset : ℕ) (text : List ℕ) → 1 ≤ length (line_ends offset text)
some_end offset [] = omega arith
some_end offset (byte ∷ rest) = by_test (byte == 10) (some_end (offset + 1) rest)
  where
    by_test : (b : Bool) → 1 ≤ length (line_ends (offset + 1) rest) → 1 ≤ length (cond b (offset ∷ line_ends (offset + 1) rest) (line_ends (offset + 1) rest))
    by_test true some = omega arith
    by_test false some = some

last_of : (x : ℕ) (xs : List ℕ) (d : ℕ) → 1 ≤ length xs → get_or (x ∷ xs) (length (x ∷ xs) - 1) d ≡ get_or xs (length xs - 1) d
last_of x xs d some = ap (λ (k : ℕ). get_or (x ∷ xs) k d) (let index : length (x ∷ xs) - 1 ≡ suc (length xs - 1) = omega (arith, some) in index)

last_end : (offset d : ℕ) (text : List ℕ) → get_or (line_ends offset text) (length (line_ends offset text) - 1) d ≡ offset + length text
last_end offset d [] = omega arith
last_end offset d (byte ∷ rest) = by_test (byte == 10) (last_end (offset + 1) d rest)
  where
    by_test : (b : Bool) → get_or (line_ends (offset + 1) rest) (length (line_ends (offset + 1) rest) - 1) d ≡ offset + 1 + length rest
        → get_or (cond b (offset ∷ line_ends (offset + 1) rest) (line_ends (offset + 1) rest)) (length (cond b (offset ∷ line_ends (offset + 1) rest) (line_ends (offset + 1) rest)) - 1) d ≡ offset + length (byte ∷ rest)
    by_test true last = last_of offset (line_ends (offset + 1) rest) d (some_end (offset + 1) rest) ∙ omega (arith, last)
    by_test false last = omega (arith, last)

pub all_lines : (text : List ℕ) → first_lines (length (line_ends 0 text)) text ≡ text
all_lines text = take_all _ text (let last = last_end 0 (length text) text in omega (arith, last))
