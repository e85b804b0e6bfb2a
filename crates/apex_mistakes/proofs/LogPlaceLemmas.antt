-- The words before a text that is cut after one of its words, and the first word that no reply has there.
use Rattle.apex_mistakes.proofs.Common.{◌≡◌, ℕ, zero, suc, ◌+◌, ◌-◌, ◌<◌, ◌≤◌, Bool, true, false, not, eqb, List, [], ◌∷◌, ◌++◌, length, take, drop, get_or, refl, sym, ap, ◌∙◌, arith, subst, inl, inr, length-append, append-nil, zero-add, eq-or-lt_of_le, take-append-add, take-nil, ◌==◌, filter, position, Expected, is_blank, words_of, from_first_word, behind_first_word, before_arrow_of, begins_reply, fitting}
use Rattle.std.proofs.lemmas.List.{take-append-drop, length-drop, drop-drop}
use Rattle.std.proofs.lemmas.List.Elements.{filter-append}
use Rattle.std.proofs.lemmas.List.FromFn.{length-range_with_len, get_or-range_with_len}
use Rattle.std.proofs.lemmas.List.Splits.{slice_split-cons_yes, length-slice_split}
use Rattle.std.proofs.lemmas.List.Sums.{position_or_len_is, prefix_len-le-length}
use Rattle.std.specs.List.{slice_split, onto_first, position_or_len, range_with_len}
use Rattle.apex_mistakes.proofs.PlaceLemmas.{behind_first}

-- ---- a text that is cut before a blank

onto-append : {X : Type 0} (x : X) (parts more : List (List X)) → 0 < length parts → onto_first x (parts ++ more) ≡ onto_first x parts ++ more
onto-append x [] more some = absurd (omega (arith, some))
onto-append x (part ∷ parts) more some = refl

module _ {X : Type 0} (p : X → Bool) (y : X) (ys : List X) (cut : p y ≡ true) where
  split-cons : (x : X) (xs : List X) (b : Bool) → p x ≡ b → slice_split p (xs ++ y ∷ ys) ≡ slice_split p xs ++ slice_split p ys → slice_split p ((x ∷ xs) ++ y ∷ ys) ≡ slice_split p (x ∷ xs) ++ slice_split p ys
  split-cons x xs true is after = rw (is, after) refl
  split-cons x xs false is after = rw (is, after) (onto-append x (slice_split p xs) (slice_split p ys) (omega (arith, length-slice_split p xs)))

  split-append : (xs : List X) → slice_split p (xs ++ y ∷ ys) ≡ slice_split p xs ++ slice_split p ys
  split-append [] = slice_split-cons_yes p y ys cut
  split-append (x ∷ xs) = split-cons x xs (p x) refl (split-append xs)

-- whether a text is empty or begins with a blank
abbrev pub at_blank : List ℕ → Bool
at_blank [] = true
at_blank (byte ∷ rest) = is_blank byte

words-blank : (byte : ℕ) (rest : List ℕ) → is_blank byte ≡ true → words_of (byte ∷ rest) ≡ words_of rest
words-blank byte rest blank = rw (slice_split-cons_yes is_blank byte rest blank) refl

words-append : (front rest : List ℕ) → at_blank rest ≡ true → words_of (front ++ rest) ≡ words_of front ++ words_of rest
words-append front [] blank = ap words_of (append-nil front) ∙ sym (append-nil (words_of front))
words-append front (byte ∷ rest) blank =
    ap (λ parts. filter (λ part. not (eqb (length part) 0)) parts) (split-append is_blank byte rest blank front)
    ∙ filter-append (λ part. not (eqb (length part) 0)) (slice_split is_blank front) (slice_split is_blank rest)
    ∙ sym (ap (λ words. words_of front ++ words) (words-blank byte rest blank))

at_blank-take : (n : ℕ) (rest : List ℕ) → at_blank rest ≡ true → at_blank (take n rest) ≡ true
at_blank-take zero rest blank = refl
at_blank-take (suc n) [] blank = refl
at_blank-take (suc n) (byte ∷ rest) blank = blank

-- ---- a text after its first words

abbrev pub behind_words : ℕ → List ℕ → List ℕ
behind_words zero text = text
behind_words (suc before) text = behind_words before (behind_first_word text)

pub behind-step : (before : ℕ) (text : List ℕ) → behind_first_word (behind_words before text) ≡ behind_words (suc before) text
behind-step zero text = refl
behind-step (suc before) text = behind-step before (behind_first_word text)

behind_blank_by : (byte : ℕ) (rest : List ℕ) (b : Bool) → is_blank byte ≡ b → at_blank (drop (position_or_len is_blank rest) rest) ≡ true → at_blank (drop (position_or_len is_blank (byte ∷ rest)) (byte ∷ rest)) ≡ true
behind_blank_by byte rest true is after = rw is is
behind_blank_by byte rest false is after =
    let next : 1 + position_or_len is_blank rest ≡ suc (position_or_len is_blank rest) = omega arith in
    rw (is, next) after

behind_blank : (word : List ℕ) → at_blank (drop (position_or_len is_blank word) word) ≡ true
behind_blank [] = refl
behind_blank (byte ∷ rest) = behind_blank_by byte rest (is_blank byte) refl (behind_blank rest)

-- the front of a text that is followed by the rest
abbrev pub front_of : List ℕ → List ℕ → List ℕ
front_of text rest = take (length text - length rest) text

-- a text ends with another
record Ends (text rest : List ℕ) : Type 0 where
  pub short : length rest ≤ length text
  pub whole : front_of text rest ++ rest ≡ text

ends-drop : (n : ℕ) (text : List ℕ) → n ≤ length text → Ends text (drop n text)
ends-drop n text within =
    let count : length text - length (drop n text) ≡ n = omega (arith, length-drop n text) in
    record { short = omega (arith, length-drop n text); whole = rw count (take-append-drop n text) }

behind-ends : (text : List ℕ) → Ends text (behind_first_word text)
behind-ends text =
    let start = position_or_len (λ byte. not (is_blank byte)) text in
    let end = position_or_len is_blank (from_first_word text) in
    let starts = prefix_len-le-length (λ byte. not (not (is_blank byte))) text in
    let ends = prefix_len-le-length (λ byte. not (is_blank byte)) (from_first_word text) in
    subst (λ rest. Ends text rest) (sym (drop-drop end start text)) (ends-drop (start + end) text (omega (arith, starts, ends, length-drop start text)))

behind_words-short : (before : ℕ) (text : List ℕ) → length (behind_words before text) ≤ length text
behind_words-short zero text = omega arith
behind_words-short (suc before) text = omega (arith, behind_words-short before (behind_first_word text), (behind-ends text).short)

-- if the rest is all but the first element, what precedes it and its first n elements are the first n + 1 elements
one-before : {X : Type 0} (n : ℕ) (front rest all : List X) → all ≡ front ++ rest → rest ≡ drop 1 all → front ++ take n rest ≡ take (suc n) all
one-before n [] [] all is behind = take-nil n ∙ sym (ap (take (suc n)) is)
one-before n [] (x ∷ rest) all is behind = absurd (omega (arith, ap length is, ap length behind, length-drop 1 all))
one-before n (x ∷ []) rest all is behind = sym (ap (take (suc n)) is)
one-before n (x ∷ y ∷ front) rest all is behind = absurd (omega (arith, ap length is, ap length behind, length-drop 1 all, length-append front rest))

-- the text before what follows its first words has these words
pub words-front : (before : ℕ) (text : List ℕ) → words_of (front_of text (behind_words before text)) ≡ take before (words_of text)
words-front zero text =
    let none : length text - length text ≡ 0 = omega arith in
    ap (λ (n : ℕ). words_of (take n text)) none
words-front (suc before) text =
    let rest = behind_first_word text in
    let left = behind_words before rest in
    let front = front_of text rest in
    let ends = behind-ends text in
    let blank : at_blank rest ≡ true = behind_blank (from_first_word text) in
    let longer : length text - length left ≡ length front + (length rest - length left) = omega (arith, sym (ap length ends.whole), length-append front rest, behind_words-short before rest) in
    let cut : front_of text left ≡ front ++ front_of rest left = ap (λ (n : ℕ). take n text) longer ∙ sym (ap (take (length front + (length rest - length left))) ends.whole) ∙ take-append-add front rest (length rest - length left) in
    let whole : words_of text ≡ words_of front ++ words_of rest = sym (ap words_of ends.whole) ∙ words-append front rest blank in
    ap words_of cut
    ∙ words-append front (front_of rest left) (at_blank-take (length rest - length left) rest blank)
    ∙ ap (λ words. words_of front ++ words) (words-front before rest)
    ∙ one-before before (words_of front) (words_of rest) (words_of text) whole (behind_first text (position (λ byte. not (is_blank byte)) text) refl)

-- ---- the place of an arrow

pub is-zero : (n : ℕ) → (n == 0) ≡ true → n ≡ 0
is-zero n is = grind (arith, is)

pub not-zero : (n : ℕ) → (n == 0) ≡ false → 0 < n
not-zero n is = grind (arith, is)

pub arrow-empty : (front : List Expected) (words : List (List ℕ)) (found parameters : List Expected) → found ≡ parameters → length found ≡ 0 → length words ≡ before_arrow_of front words parameters
arrow-empty front words found [] is none = refl
arrow-empty front words found (parameter ∷ parameters) is none = absurd (omega (arith, none, ap length is))

pub arrow-some : (front : List Expected) (words : List (List ℕ)) (found parameters : List Expected) → found ≡ parameters → 0 < length found → length front + 1 + length found ≡ before_arrow_of front words parameters
arrow-some front words found [] is some = absurd (omega (arith, some, ap length is))
arrow-some front words found (parameter ∷ parameters) is some = ap (λ (xs : List Expected). length front + 1 + length xs) is

-- ---- the first word that no reply has there

pub fits-until : (words : List (List ℕ)) (i : ℕ) → i ≤ length words → ((k : ℕ) → k < i → begins_reply (take (k + 1) words) ≡ true) → (i < length words → begins_reply (take (i + 1) words) ≡ false) → i ≡ fitting words
fits-until words i within fit misfit =
    let count = length words in
    let misfits : ℕ → Bool = λ before. not (begins_reply (take (before + 1) words)) in
    let at : (k : ℕ) → k < count → get_or (range_with_len 0 count) k 0 ≡ k = λ k lt. get_or-range_with_len 0 count k 0 lt ∙ zero-add k in
    sym (position_or_len_is misfits (range_with_len 0 count) i 0
    (omega (arith, within, length-range_with_len 0 count))
    (λ k lt. ap misfits (at k (omega (arith, lt, within))) ∙ ap not (fit k lt))
    (λ lt. let few : i < count = omega (arith, lt, length-range_with_len 0 count) in ap misfits (at i few) ∙ ap not (misfit few)))

-- with what is before the rest
pub begun : (result : Bool) (cut before : ℕ) (text rest : List ℕ) → result ≡ begins_reply (words_of (take cut text)) → cut ≡ length text - length rest → rest ≡ behind_words (before + 1) text → result ≡ begins_reply (take (before + 1) (words_of text))
begun result cut before text rest is at behind =
    is ∙ ap (λ (n : ℕ). begins_reply (words_of (take n text))) (at ∙ ap (λ (xs : List ℕ). length text - length xs) behind) ∙ ap begins_reply (words-front (before + 1) text)

pub fits-more : (words : List (List ℕ)) (n : ℕ) → ((k : ℕ) → k < n → begins_reply (take (k + 1) words) ≡ true) → begins_reply (take (n + 1) words) ≡ true → (k : ℕ) → k < n + 1 → begins_reply (take (k + 1) words) ≡ true
fits-more words n before here k lt =
    let most : k ≤ n = omega (arith, lt) in
    elim (eq-or-lt_of_le most) [
      | inl same ↦ ap (λ (m : ℕ). begins_reply (take (m + 1) words)) same ∙ here
      | inr less ↦ before k less
    ]
