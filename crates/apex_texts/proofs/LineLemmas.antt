-- Reading lines one after the other, as a loop does.
use Rattle.apex_texts.proofs.Common.{◌≡◌, ℕ, ◌+◌, List, [], ◌∷◌, ◌++◌, Some, None, Result, Ok, Err, refl, sym, ap, ◌∙◌, append_assoc, append-nil, ◌>>=◌, FaultyLine, item_of_line, before, items_from}
use Rattle.apex_texts.specs.declared.line_fault.LineFault.{LineFault}
use Rattle.apex_texts.specs.LineFault.{number_of}

-- what was read before, and what is still read
abbrev pub with_front : {A : Type 0} → List A → Result (List A) FaultyLine → Result (List A) FaultyLine
with_front front read = read >>= λ items. Ok (front ++ items)

pub with_front-nil : {A : Type 0} (read : Result (List A) FaultyLine) → with_front [] read ≡ read
with_front-nil (Ok items) = refl
with_front-nil (Err faulty) = refl

with_front-push : {A : Type 0} (front : List A) (item : A) (number : ℕ) (after : Result (List A) FaultyLine)
    → with_front front (before number (Ok (Some item)) after) ≡ with_front (front ++ item ∷ []) after
with_front-push {A} front item number (Ok items) = ap (λ (all : List A). Ok all) (simp append_assoc)
with_front-push front item number (Err faulty) = refl

-- after a line with an item
pub goes_on : {A : Type 0} (item_at : List ℕ → List (List ℕ) → Result A LineFault) (front : List A) (number : ℕ) (lines : List (List ℕ)) (line : List ℕ) (rest : List (List ℕ)) (item : A) (total : Result (List A) FaultyLine)
    → lines ≡ line ∷ rest → item_of_line item_at line ≡ Ok (Some item)
    → with_front front (items_from item_at number lines) ≡ total → with_front (front ++ item ∷ []) (items_from item_at (number + 1) rest) ≡ total
unfolding items_from
goes_on item_at front number lines line rest item total cut read so_far =
    let one : with_front front (items_from item_at number lines) ≡ with_front (front ++ item ∷ []) (items_from item_at (number + 1) rest) =
    rw (cut, read) (with_front-push front item number (items_from item_at (number + 1) rest)) in
    sym one ∙ so_far

-- after a line without one
pub skips : {A : Type 0} (item_at : List ℕ → List (List ℕ) → Result A LineFault) (front : List A) (number : ℕ) (lines : List (List ℕ)) (line : List ℕ) (rest : List (List ℕ)) (total : Result (List A) FaultyLine)
    → lines ≡ line ∷ rest → item_of_line item_at line ≡ Ok None
    → with_front front (items_from item_at number lines) ≡ total → with_front front (items_from item_at (number + 1) rest) ≡ total
unfolding items_from
skips item_at front number lines line rest total cut read so_far =
    let one : with_front front (items_from item_at number lines) ≡ with_front front (items_from item_at (number + 1) rest) = rw (cut, read) refl in
    sym one ∙ so_far

-- at a faulty line
pub refuses : {A : Type 0} (item_at : List ℕ → List (List ℕ) → Result A LineFault) (front : List A) (number : ℕ) (lines : List (List ℕ)) (line : List ℕ) (rest : List (List ℕ)) (fault : LineFault) (total : Result (List A) FaultyLine)
    → lines ≡ line ∷ rest → item_of_line item_at line ≡ Err fault
    → with_front front (items_from item_at number lines) ≡ total → total ≡ Err (record { line = number; fault = number_of fault })
unfolding items_from
refuses item_at front number lines line rest fault total cut read so_far =
    let one : with_front front (items_from item_at number lines) ≡ Err (record { line = number; fault = number_of fault }) = rw (cut, read) refl in
    sym so_far ∙ one

-- after the last line
pub ends : {A : Type 0} (item_at : List ℕ → List (List ℕ) → Result A LineFault) (front : List A) (number : ℕ) (lines : List (List ℕ)) (total : Result (List A) FaultyLine)
    → lines ≡ [] → with_front front (items_from item_at number lines) ≡ total → total ≡ Ok front
unfolding items_from
ends {A} item_at front number lines total cut so_far =
    let one : with_front front (items_from item_at number lines) ≡ Ok front = rw cut (ap (λ (all : List A). Ok all) (append-nil front)) in
    sym so_far ∙ one
