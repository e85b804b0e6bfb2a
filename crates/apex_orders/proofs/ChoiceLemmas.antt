-- Partitions whose next calls are enough to try.
use Rattle.apex_orders.proofs.Common.{◌≡◌, ◌≢◌, ◌⊎◌, ◌↔◌, inl, inr, ⊎_elim, ℕ, ◌+◌, ◌-◌, ◌^◌, ◌<◌, ◌≤◌, Bool, true, false, List, [], length, get_or, Option, Some, None, refl, sym, ap, ◌∙◌, subst, arith, slice_get, unwrap_or, false≢true, cases_eq, cases_lt, slice_get_within, slice_get_past, slice_get-get_or, unwrap_or-slice_get, Call, Moment, Configuration, count_of, History, entries_of, is_tried, HasNoChannel}
use Rattle.apex_orders.proofs.Common.{IsNextCall, IsOnChannel, IsQuietOutside, IsSafeToTry, IsNextDue, HasNext, IsApartFromRest, IsEnough, IsRefusedEarly, names, Scripts, script_of, AreDue, IsEnoughWith}
use Rattle.apex_orders.proofs.UseLemmas.{apart_quiet, apart_unnamed}

pub has_script : (scripts : Scripts) (q k : ℕ) (timed : Moment × Call) → slice_get (script_of scripts q) k ≡ Some timed → q < length scripts
has_script scripts q k timed at = of_script (slice_get scripts q) refl
  where
    of_script : (o : Option (List (Moment × Call))) → slice_get scripts q ≡ o → q < length scripts
    of_script None none = let empty : slice_get {X = Moment × Call} [] k ≡ Some timed = ap (λ (o : Option (List (Moment × Call))). slice_get (unwrap_or o []) k) (sym none) ∙ at in absurd (cc)
    of_script (Some script) here = slice_get_within scripts q script here

pub has_calls : (scripts : Scripts) (h : History) (q : ℕ) → HasNext scripts h q → q < length scripts
has_calls scripts h q has = of_script (slice_get scripts q) refl
  where
    of_script : (o : Option (List (Moment × Call))) → slice_get scripts q ≡ o → q < length scripts
    of_script None none =
        let empty = ap (λ (o : Option (List (Moment × Call))). length (unwrap_or o [])) none in
        absurd (omega (arith, empty, has))
    of_script (Some script) here = slice_get_within scripts q script here

pub script_here : (scripts : Scripts) (p : ℕ) (script : List (Moment × Call)) → slice_get scripts p ≡ Some script → script_of scripts p ≡ script
script_here scripts p script here = ap (λ (o : Option (List (Moment × Call))). unwrap_or o []) here

-- the next call, from the number of calls made
pub next_at : (scripts : Scripts) (h : History) (p : ℕ) (script : List (Moment × Call)) (index : ℕ) (timed : Moment × Call) → slice_get scripts p ≡ Some script
    → index ≡ count_of (entries_of p h) → index < 2 ^ 64 - 1 → slice_get script index ≡ Some timed → slice_get (script_of scripts p) (length (entries_of p h)) ≡ Some timed
next_at scripts h p script index timed here is few at =
    let whole : index ≡ length (entries_of p h) = omega (arith, is, few) in
    (λ i. slice_get (script_here scripts p script here i) (sym whole i)) ∙ at

module _ (config : Configuration) (scripts : Scripts) (h : History) where
  -- ---- one partition

  module _ (tried : ℕ → Bool) (p : ℕ) where
    safe_of : (IsOne : Moment × Call → Type 0) → IsNextCall scripts h p IsOne → ((timed : Moment × Call) → IsOne timed → IsRefusedEarly config h p timed ⊎ IsApartFromRest config scripts h tried p timed.1)
        → IsSafeToTry config scripts h tried p
    safe_of IsOne next safe = record {
      some = slice_get_within (script_of scripts p) (length (entries_of p h)) next.timed next.at;
      local = λ timed at.
          let both : Some next.timed ≡ Some timed = sym next.at ∙ at in
          let same : next.timed ≡ timed = cc in
          safe timed (subst IsOne same next.is);
    }

    pub safe_alone : IsNextCall scripts h p (HasNoChannel config h p) → IsSafeToTry config scripts h tried p
    safe_alone next = safe_of (HasNoChannel config h p) next (λ timed.
        ⊎_elim
        (λ (early : IsRefusedEarly config h p timed). inl early)
        (λ (off : (c : ℕ) → names config c p timed.1 ≡ false). inr (λ q k other outside past at. apart_unnamed config p timed.1 q other.1 off)))

    pub safe_on : (channel : ℕ) (change : Bool) → IsNextCall scripts h p (IsOnChannel config p channel change) → IsQuietOutside config scripts h tried channel change → IsSafeToTry config scripts h tried p
    safe_on channel change next quiet = safe_of (IsOnChannel config p channel change) next (λ timed is.
        inr (λ q k other outside past at. apart_quiet config p timed.1 q other.1 channel change is.0 is.1 (quiet q outside k other past at)))

  -- ---- the set

  module _ (tried : ℕ → Bool) where
    pub enough_of : (one : (p : ℕ) × (tried p ≡ true) × HasNext scripts h p)
        → ((p : ℕ) → p < length scripts → tried p ≡ true → IsSafeToTry config scripts h tried p) → IsEnough config scripts h tried
    enough_of one safe = record {
      some = λ q has. one;
      local = λ p timed own at. (safe p (has_script scripts p (length (entries_of p h)) timed at) own).local timed at;
    }

    pub all_enough : ((p : ℕ) → p < length scripts → tried p ≡ true) → IsEnough config scripts h tried
    all_enough all = record {
      some = λ q has. (q, all q (has_calls scripts h q has), has);
      local = λ p timed own at. inr (λ q k other outside past here. absurd (let inside = all q (has_script scripts q k other here) in cc));
    }

-- ---- by the clock

module _ (config : Configuration) (scripts : Scripts) (h : History) (items : List Bool) (count : length items ≡ length scripts)
    (each : (p : ℕ) (b : Bool) → slice_get items p ≡ Some b → (b ≡ true) ↔ IsNextDue true scripts h p) where
  here : (p : ℕ) → p < length items → (is_tried items p ≡ true) ↔ IsNextDue true scripts h p
  here p within = subst (λ (b : Bool). (b ≡ true) ↔ IsNextDue true scripts h p) (sym (unwrap_or-slice_get items p false)) (each p (get_or items p false) (slice_get-get_or items p false within))

  pub all_due : AreDue true scripts h (is_tried items)
  all_due p own =
      ⊎_elim
      (λ (within : p < length items). (here p within).0 own)
      (λ (past : length items ≤ p). absurd (let none : is_tried items p ≡ false = ap (λ (o : Option Bool). unwrap_or o false) (slice_get_past items p past) in cc))
      (cases_lt p (length items))

  pub due_enough : IsEnoughWith true config scripts h (is_tried items)
  due_enough = record {
    enough = λ off. absurd (false≢true (sym off));
    all = λ on p has due. (here p (let within = has_calls scripts h p has in omega (arith, within, count))).1 due;
  }

-- one more index
pub one_more : (P : ℕ → Type 0) (n : ℕ) → ((k : ℕ) → k < n → P k) → P n → (k : ℕ) → k < n + 1 → P k
one_more P n before here k below =
    ⊎_elim
    (λ (same : k ≡ n). subst P (sym same) here)
    (λ (other : k ≢ n). before k (omega (arith, below, other)))
    (cases_eq k n)
