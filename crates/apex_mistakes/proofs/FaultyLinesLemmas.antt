-- Faulty lines one after the other, as a loop finds them.
use Rattle.apex_mistakes.proofs.Common.{◌≡◌, ℕ, suc, ◌+◌, ◌-◌, ◌<◌, ◌≤◌, List, [], ◌∷◌, ◌++◌, take, Option, Some, None, Result, Ok, Err, refl, sym, ap, ◌∙◌, arith, append_assoc, slice_get, option_map, option_to_list, Expected, LineFault, LinePlace, FaultyLine, item_of_line, before, items_from, place_in, places_from, faulty_line}
use Rattle.std.specs.Result.{result_err}
use Rattle.apex_mistakes.proofs.PlaceLemmas.{place-faulty}

module _ {A : Type 0} (item_at : List ℕ → List (List ℕ) → Result A LineFault) (front : List Expected) (number : ℕ) where
  -- at a faulty line
  pub finds : (lines : List (List ℕ)) (line : List ℕ) (rest : List (List ℕ)) (fault : LineFault) → lines ≡ line ∷ rest → item_of_line item_at line ≡ Err fault
      → places_from item_at front number lines ≡ place_in front number fault line ∷ places_from item_at front (number + 1) rest
  unfolding places_from
  finds lines line rest fault cut read = rw (cut, read) refl

  -- at another line
  pub passes : (lines : List (List ℕ)) (line : List ℕ) (rest : List (List ℕ)) (item : Option A) → lines ≡ line ∷ rest → item_of_line item_at line ≡ Ok item
      → places_from item_at front number lines ≡ places_from item_at front (number + 1) rest
  unfolding places_from
  passes lines line rest item cut read = rw (cut, read) refl

  -- after the last line
  pub finds_nothing : (lines : List (List ℕ)) → lines ≡ [] → places_from item_at front number lines ≡ []
  unfolding places_from
  finds_nothing lines cut = rw cut refl

-- ---- the first fault is the one for which the text is refused

agrees_after : {A : Type 0} (item : A) (after : Result (List A) FaultyLine) (number : ℕ) → result_err after ≡ result_err (before number (Ok (Some item)) after)
agrees_after item (Ok items) number = refl
agrees_after item (Err faulty) number = refl

agrees_by : {A : Type 0} (front : List Expected) (number : ℕ) (line : List ℕ) (read : Result (Option A) LineFault) (places : List LinePlace) (after : Result (List A) FaultyLine)
    → option_map faulty_line (slice_get places 0) ≡ result_err after
    → option_map faulty_line (slice_get (option_to_list (option_map (λ fault. place_in front number fault line) (result_err read)) ++ places) 0) ≡ result_err (before number read after)
agrees_by front number line (Err fault) places after later = ap (λ (x : FaultyLine). Some x) (place-faulty front number fault line)
agrees_by front number line (Ok None) places after later = later
agrees_by front number line (Ok (Some item)) places after later = later ∙ agrees_after item after number

pub agrees : {A : Type 0} (item_at : List ℕ → List (List ℕ) → Result A LineFault) (front : List Expected) (number : ℕ) (lines : List (List ℕ))
    → option_map faulty_line (slice_get (places_from item_at front number lines) 0) ≡ result_err (items_from item_at number lines)
unfolding places_from items_from
agrees item_at front number [] = refl
agrees item_at front number (line ∷ rest) =
    agrees_by front number line (item_of_line item_at line) (places_from item_at front (number + 1) rest) (items_from item_at (number + 1) rest) (agrees item_at front (number + 1) rest)

-- ---- at most this many are kept

pub keeps : {X : Type 0} (first : List X) (most count : ℕ) (x : X) (left after total : List X) → left ≡ x ∷ after → count < most
    → first ++ take (most - count) left ≡ total → (first ++ x ∷ []) ++ take (most - (count + 1)) after ≡ total
keeps first most count x left after total is room so_far =
    let more : most - count ≡ suc (most - (count + 1)) = omega arith in
    let cut : take (most - count) left ≡ x ∷ take (most - (count + 1)) after = rw (is, more) refl in
    append_assoc first (x ∷ []) (take (most - (count + 1)) after) ∙ sym (ap (λ xs. first ++ xs) cut) ∙ so_far

pub leaves_out : {X : Type 0} (first : List X) (most count : ℕ) (left after total : List X) → most ≤ count
    → first ++ take (most - count) left ≡ total → first ++ take (most - (count + 1)) after ≡ total
leaves_out first most count left after total full so_far =
    let none : most - count ≡ 0 = omega arith in
    let none_after : most - (count + 1) ≡ 0 = omega arith in
    ap (λ (n : ℕ). first ++ take n after) none_after ∙ sym (ap (λ (n : ℕ). first ++ take n left) none) ∙ so_far
