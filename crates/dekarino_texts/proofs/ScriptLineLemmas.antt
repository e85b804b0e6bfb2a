-- The numbers of the lines that have a call.
use Rattle.dekarino_texts.proofs.Common.{◌≡◌, ℕ, zero, suc, ◌+◌, true, false, List, [], ◌∷◌, ◌++◌, length, Option, Some, None, Result, Ok, Err, refl, is_some, sym, ap, ◌∙◌, subst, append_assoc, append-nil, arith, slice_get, lines, FaultyLine, line_words, item_of_line, items_from, are_words, has_call, numbers_from, call_numbers, IsLineOf, AreLinesOf}
use Rattle.apex_types.specs.declared.call.Call.{Call}
use Rattle.apex_types.specs.declared.moment.Moment.{Moment}
use Rattle.apex_texts.specs.declared.line_fault.LineFault.{LineFault}
use Rattle.apex_texts.specs.LineFault.{number_of}
use Rattle.apex_texts.specs.Script.{timed_call_at, script_of}

-- ---- one line more

module _ (front : List ℕ) (number : ℕ) (left : List (List ℕ)) (line : List ℕ) (rest : List (List ℕ)) (total : List ℕ) (cut : left ≡ line ∷ rest) where
  -- one with a call
  pub counted : has_call line ≡ true → front ++ numbers_from number left ≡ total → (front ++ number ∷ []) ++ numbers_from (number + 1) rest ≡ total
  unfolding numbers_from
  counted is so_far =
      let one : front ++ numbers_from number left ≡ front ++ (number ∷ numbers_from (number + 1) rest) = rw (cut, is) refl in
      append_assoc front (number ∷ []) (numbers_from (number + 1) rest) ∙ (sym one ∙ so_far)

  -- one without
  pub passed : has_call line ≡ false → front ++ numbers_from number left ≡ total → front ++ numbers_from (number + 1) rest ≡ total
  unfolding numbers_from
  passed is so_far =
      let one : front ++ numbers_from number left ≡ front ++ numbers_from (number + 1) rest = rw (cut, is) refl in
      sym one ∙ so_far

-- after the last line
pub ended : (front : List ℕ) (number : ℕ) (left : List (List ℕ)) (total : List ℕ) → left ≡ [] → front ++ numbers_from number left ≡ total → front ≡ total
unfolding numbers_from
ended front number left total cut so_far =
    let one : front ++ numbers_from number left ≡ front = rw cut (append-nil front) in
    sym one ∙ so_far

-- ---- each number is that of its call's line

-- a line that is read has a call if it has an item
read_line : (line : List ℕ) (item : Option (Moment × Call)) → item_of_line timed_call_at line ≡ Ok item → has_call line ≡ is_some item
unfolding item_of_line
read_line line item read = by_words (line_words line) refl
  where
    by_call : (words : List ℕ × List (List ℕ)) → line_words line ≡ Ok (Some words) → (call : Result (Moment × Call) LineFault) → timed_call_at words.0 words.1 ≡ call → has_call line ≡ is_some item
    by_call words is (Err fault) refused =
        let one : item_of_line timed_call_at line ≡ Err fault = rw (is, refused) refl in
        absurd (cc)
    by_call words is (Ok timed) called =
        let one : item_of_line timed_call_at line ≡ Ok (Some timed) = rw (is, called) refl in
        let same : Some timed ≡ item = cc in
        ap are_words is ∙ ap is_some same

    by_words : (words : Result (Option (List ℕ × List (List ℕ))) LineFault) → line_words line ≡ words → has_call line ≡ is_some item
    by_words (Err fault) is =
        let one : item_of_line timed_call_at line ≡ Err fault = rw is refl in
        absurd (cc)
    by_words (Ok None) is =
        let one : item_of_line timed_call_at line ≡ Ok None = rw is refl in
        let same : None ≡ item = cc in
        ap are_words is ∙ ap is_some same
    by_words (Ok (Some words)) is = by_call words is (timed_call_at words.0 words.1) refl

-- the call is that of the line with the number, if the first of these lines has the other number
record IsCallOf (first : ℕ) (left : List (List ℕ)) (number : ℕ) (timed : Moment × Call) : Type 0 where
  index : ℕ
  number_is : number ≡ index + first
  line : List ℕ
  here : slice_get left index ≡ Some line
  call : item_of_line timed_call_at line ≡ Ok (Some timed)

record AreOf (first : ℕ) (left : List (List ℕ)) (calls : List (Moment × Call)) : Type 0 where
  count : length (numbers_from first left) ≡ length calls
  each : (k number : ℕ) (timed : Moment × Call) → slice_get (numbers_from first left) k ≡ Some number → slice_get calls k ≡ Some timed → IsCallOf first left number timed

later : (first : ℕ) (line : List ℕ) (rest : List (List ℕ)) (number : ℕ) (timed : Moment × Call) → IsCallOf (first + 1) rest number timed → IsCallOf first (line ∷ rest) number timed
later first line rest number timed is = record {
  index = suc is.index;
  number_is = let that = is.number_is in omega arith;
  line = is.line;
  here = is.here;
  call = is.call;
}

-- a line without a call
no_call_here : (first : ℕ) (line : List ℕ) (rest : List (List ℕ)) (calls : List (Moment × Call)) → has_call line ≡ false → AreOf (first + 1) rest calls → AreOf first (line ∷ rest) calls
unfolding numbers_from
no_call_here first line rest calls is are =
    let same : numbers_from first (line ∷ rest) ≡ numbers_from (first + 1) rest = rw is refl in
    record {
      count = ap length same ∙ are.count;
      each = λ k number timed at here. later first line rest number timed (are.each k number timed (ap (λ (all : List ℕ). slice_get all k) (sym same) ∙ at) here);
    }

-- a line with a call
call_here : (first : ℕ) (line : List ℕ) (rest : List (List ℕ)) (timed : Moment × Call) (calls : List (Moment × Call)) → has_call line ≡ true → item_of_line timed_call_at line ≡ Ok (Some timed)
    → AreOf (first + 1) rest calls → AreOf first (line ∷ rest) (timed ∷ calls)
unfolding numbers_from
call_here first line rest timed calls is read are = record { count = ap length same ∙ ap suc are.count; each = each }
  where
    same : numbers_from first (line ∷ rest) ≡ first ∷ numbers_from (first + 1) rest
    same = rw is refl

    each : (k number : ℕ) (one : Moment × Call) → slice_get (numbers_from first (line ∷ rest)) k ≡ Some number → slice_get (timed ∷ calls) k ≡ Some one → IsCallOf first (line ∷ rest) number one
    each zero number one at here =
        let first_at : ◌≡◌ {A = Option ℕ} (Some first) (Some number) = ap (λ (all : List ℕ). slice_get all 0) (sym same) ∙ at in
        let number_is : first ≡ number = cc in
        let one_is : timed ≡ one = cc in
        record {
          index = 0;
          number_is = omega arith;
          line = line;
          here = refl;
          call = read ∙ ap (λ (t : Moment × Call). Ok (Some t)) one_is;
        }
    each (suc k) number one at here =
        later first line rest number one (are.each k number one (ap (λ (all : List ℕ). slice_get all (suc k)) (sym same) ∙ at) here)

-- the lines of a script that is read
are_of : (first : ℕ) (left : List (List ℕ)) (calls : List (Moment × Call)) → items_from timed_call_at first left ≡ Ok calls → AreOf first left calls
unfolding items_from numbers_from
are_of first [] calls read =
    let none : [] ≡ calls = cc in
    record { count = ap length none; each = λ k number timed at here. absurd (cc) }
are_of first (line ∷ rest) calls read = by_item (item_of_line timed_call_at line) refl (are_of (first + 1) rest)
  where
    by_rest : (timed : Moment × Call) → item_of_line timed_call_at line ≡ Ok (Some timed) → (after : Result (List (Moment × Call)) FaultyLine) → items_from timed_call_at (first + 1) rest ≡ after
        → ((others : List (Moment × Call)) → items_from timed_call_at (first + 1) rest ≡ Ok others → AreOf (first + 1) rest others) → AreOf first (line ∷ rest) calls
    by_rest timed is (Err faulty) refused are =
        let all : items_from timed_call_at first (line ∷ rest) ≡ Err faulty = rw (is, refused) refl in
        absurd (cc)
    by_rest timed is (Ok others) others_read are =
        let all : items_from timed_call_at first (line ∷ rest) ≡ Ok (timed ∷ others) = rw (is, others_read) refl in
        let same : timed ∷ others ≡ calls = cc in
        subst (λ (cs : List (Moment × Call)). AreOf first (line ∷ rest) cs) same (call_here first line rest timed others (read_line line (Some timed) is) is (are others others_read))

    by_item : (item : Result (Option (Moment × Call)) LineFault) → item_of_line timed_call_at line ≡ item
        → ((others : List (Moment × Call)) → items_from timed_call_at (first + 1) rest ≡ Ok others → AreOf (first + 1) rest others) → AreOf first (line ∷ rest) calls
    by_item (Err fault) is are =
        let all : items_from timed_call_at first (line ∷ rest) ≡ Err (record { line = first; fault = number_of fault }) = rw is refl in
        absurd (cc)
    by_item (Ok None) is are =
        let all : items_from timed_call_at first (line ∷ rest) ≡ items_from timed_call_at (first + 1) rest = rw is refl in
        no_call_here first line rest calls (read_line line None is) (are calls (sym all ∙ read))
    by_item (Ok (Some timed)) is are = by_rest timed is (items_from timed_call_at (first + 1) rest) refl are

pub are_lines : (script : List ℕ) → AreLinesOf script (call_numbers script) (script_of script)
are_lines script = by_calls (script_of script) refl
  where
    line_of : (number : ℕ) (timed : Moment × Call) → IsCallOf 1 (lines script) number timed → IsLineOf script number timed
    line_of number timed is = record { index = is.index; number_is = is.number_is; line = is.line; here = is.here; call = is.call }

    by_calls : (calls : Result (List (Moment × Call)) FaultyLine) → script_of script ≡ calls → AreLinesOf script (call_numbers script) calls
    by_calls (Ok calls) is =
        let are = are_of 1 (lines script) calls is in
        record { count = are.count; each = λ k number timed at here. line_of number timed (are.each k number timed at here) }
    by_calls (Err faulty) is = tt
