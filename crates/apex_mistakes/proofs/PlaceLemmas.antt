-- The words of a line starting at a word, and the place of a fault in it.
use Rattle.apex_mistakes.proofs.Common.{◌≡◌, ◌≢◌, ℕ, zero, suc, ◌+◌, ◌-◌, ◌<◌, not, List, [], ◌∷◌, ◌++◌, length, take, drop, get_or, Option, Some, None, refl, sym, ap, ◌∙◌, arith, length-append, drop-nil, get_or-append_right, position, is_blank, words_of, Expected, LineFault, from_first_word, behind_first_word, from_word_at, parameters_at, misfit, words_before, place_in, FaultyLine, faulty_line}
use Rattle.std.proofs.Math.ListN.{drop_of_length-le}
use Rattle.std.specs.List.{position_or_len}
use Rattle.apex_texts.specs.declared.line_fault.LineFault.TheVariants as faults
use Rattle.apex_texts.specs.LineFault.{number_of}
use Rattle.apex_texts.proofs.TextLemmas.{position_found, position_missed, FromWord, from_word, words_skip, words_none, words_at, words_last}

-- what a word leaves of the line that it begins
left_of_word : (line word : List ℕ) (blank : Option ℕ) → FromWord line word → position is_blank word ≡ blank → words_of (drop (position_or_len is_blank word) word) ≡ drop 1 (words_of line)
left_of_word line word (Some end) begins found =
    let cut = words_at word end begins.some begins.word found in
    let same : words_of line ≡ take end word ∷ words_of (drop end word) = sym begins.same ∙ cut in
    ap (λ (n : ℕ). words_of (drop n word)) (sym (position_found is_blank word end found).1) ∙ sym (ap (drop 1) same)
left_of_word line word None begins missed =
    let whole = sym begins.same ∙ words_last word begins.some begins.word missed in
    ap words_of (drop_of_length-le word (position_missed is_blank word missed)) ∙ sym (ap (drop 1) whole)

pub behind_first : (line : List ℕ) (start : Option ℕ) → position (λ byte. not (is_blank byte)) line ≡ start → words_of (behind_first_word line) ≡ drop 1 (words_of line)
behind_first line (Some start) found =
    let place = position_found (λ byte. not (is_blank byte)) line start found in
    let begins = from_word line (from_first_word line) start found (ap (λ (n : ℕ). drop n line) (sym place.1)) in
    left_of_word line (from_first_word line) (position is_blank (from_first_word line)) begins refl
behind_first line None missed =
    let nothing : from_first_word line ≡ [] = drop_of_length-le line (position_missed (λ byte. not (is_blank byte)) line missed) in
    ap (λ (word : List ℕ). words_of (drop (position_or_len is_blank word) word)) nothing ∙ sym (ap (drop 1) (words_none line missed))

drop-one : (before : ℕ) (words : List (List ℕ)) → drop before (drop 1 words) ≡ drop (suc before) words
drop-one before [] = drop-nil before
drop-one before (word ∷ words) = refl

-- the words of a line, starting at the word after this number of others
pub words_from : (before : ℕ) (line : List ℕ) → words_of (from_word_at before line) ≡ drop before (words_of line)
words_from zero line = words_skip line
words_from (suc before) line =
    words_from before (behind_first_word line) ∙ ap (drop before) (behind_first line (position (λ byte. not (is_blank byte)) line) refl) ∙ drop-one before (words_of line)

-- what is expected after the call word
pub behind_call : {X : Type 0} (front : List X) (call : X) (parameters : List X) (i : ℕ) (none : X) → length front < i → get_or (front ++ call ∷ parameters) i none ≡ get_or parameters (i - length front - 1) none
behind_call front call parameters i none behind =
    let later : i - length front ≡ suc (i - length front - 1) = omega arith in
    get_or-append_right front (call ∷ parameters) i none (omega arith) ∙ ap (λ (n : ℕ). get_or (call ∷ parameters) n none) later

-- the number of words that are expected, and so precede the first that is too many
pub expected-count : {X : Type 0} (front : List X) (call : X) (found parameters : List X) → found ≡ parameters → length front + 1 + length found ≡ length (front ++ call ∷ parameters)
expected-count front call found parameters is = omega (arith, ap length is, length-append front (call ∷ parameters))

pub misfit-nothing : (parameters : List Expected) → misfit parameters [] ≡ 0
misfit-nothing [] = refl
misfit-nothing (parameter ∷ parameters) = refl

-- the faults of arguments
pub argument-before : (front : List Expected) (fault : LineFault) (words : List (List ℕ))
    → fault ≢ faults.TooFewWords → fault ≢ faults.TooManyWords → fault ≢ faults.Moment → fault ≢ faults.Partition → fault ≢ faults.UnknownCall
    → words_before front fault words ≡ length front + 1 + misfit (parameters_at (drop (length front) words)) (drop (length front + 1) words)
argument-before front faults.NotAscii words few many moment partition call = refl
argument-before front faults.TooFewWords words few many moment partition call = absurd (few refl)
argument-before front faults.TooManyWords words few many moment partition call = absurd (many refl)
argument-before front faults.Moment words few many moment partition call = absurd (moment refl)
argument-before front faults.Partition words few many moment partition call = absurd (partition refl)
argument-before front faults.UnknownCall words few many moment partition call = absurd (call refl)
argument-before front faults.Number words few many moment partition call = refl
argument-before front faults.Name words few many moment partition call = refl
argument-before front faults.Message words few many moment partition call = refl

-- a place has the line and the fault that it was made for
pub place-faulty : (front : List Expected) (number : ℕ) (fault : LineFault) (line : List ℕ) → faulty_line (place_in front number fault line) ≡ record { line = number; fault = number_of fault }
place-faulty front number faults.NotAscii line = refl
place-faulty front number faults.TooFewWords line = refl
place-faulty front number faults.TooManyWords line = refl
place-faulty front number faults.Moment line = refl
place-faulty front number faults.Partition line = refl
place-faulty front number faults.UnknownCall line = refl
place-faulty front number faults.Number line = refl
place-faulty front number faults.Name line = refl
place-faulty front number faults.Message line = refl

pub place-line : (front : List Expected) (number : ℕ) (fault : LineFault) (line : List ℕ) → (place_in front number fault line).line ≡ number
place-line front number fault line = ap (λ (faulty : FaultyLine). faulty.line) (place-faulty front number fault line)
