-- If none of the next calls can be made before the others, there is no order.
use Rattle.apex_log_orders.proofs.Common.{◌≡◌, ⊎_elim, ℕ, zero, suc, ◌<◌, ◌≤◌, List, [], ◌∷◌, ◌++◌, length, take, drop, Some, refl, sym, ap, ◌∙◌, subst, arith, append_assoc, append-nil, slice_get, cases_eq, cases_lt, slice_get_within, take_all, Configuration, IsConfiguration, Entry, History, entries_of, Logs, log_in, IsOrder, IsBeginning, HasNoOrder, GoesOn, Ends, IsWithin, NeverNext}
use Rattle.apex_log_orders.proofs.Beginnings.{begins_nil, begins_front, begins_push, goes_last, made_mine, made_others}

-- the shorter of two prefixes of a list is a prefix of the longer one
front_of : {X : Type 0} (n m : ℕ) (xs : List X) → n ≤ m → take m xs ≡ take n xs ++ drop n (take m xs)
front_of zero m xs few = refl
front_of (suc n) zero xs few = absurd (omega (arith, few))
front_of (suc n) (suc m) [] few = refl
front_of (suc n) (suc m) (x ∷ xs) few = ap (λ ys. x ∷ ys) (front_of n m xs (omega (arith, few)))

module _ (config : Configuration) (logs : Logs) where
  -- a partition's entries in one beginning are a prefix of those in another in which it made no fewer calls
  pub own_grows : (q : ℕ) (h front : History) → IsBeginning config logs h → IsBeginning config logs front
      → length (entries_of q h) ≤ length (entries_of q front) → (more : History) × (entries_of q front ≡ entries_of q h ++ more)
  own_grows q h front begins leads few =
      let n = length (entries_of q h) in
      let m = length (entries_of q front) in
      (drop n (take m (log_in logs q)), leads.entries q ∙ (front_of n m (log_in logs q) few ∙ ap (λ (es : History). es ++ drop n (take m (log_in logs q))) (sym (begins.entries q))))

  pub own_same : (q : ℕ) (h front : History) → IsBeginning config logs h → IsBeginning config logs front
      → length (entries_of q h) ≡ length (entries_of q front) → entries_of q h ≡ entries_of q front
  own_same q h front begins leads same = begins.entries q ∙ (ap (λ (n : ℕ). take n (log_in logs q)) same ∙ sym (leads.entries q))

  pub order_begins : (h : History) → IsOrder config logs h → IsBeginning config logs h
  order_begins h order = record {
    lawful = order.lawful;
    entries = λ q. order.entries q ∙ sym (ap (λ (es : History). take (length es) (log_in logs q)) (order.entries q) ∙ take_all (length (log_in logs q)) (log_in logs q) (omega arith));
  }

  -- an order that begins with a history continues it with a next call
  pub goes_first : (h : History) (e : Entry) (rest : History) → IsOrder config logs (h ++ e ∷ rest) → GoesOn config logs h e.partition e × Ends config logs (h ++ e ∷ [])
  goes_first h e rest order =
      let split : h ++ e ∷ rest ≡ (h ++ e ∷ []) ++ rest = sym (append_assoc h (e ∷ []) rest) in
      let whole : IsOrder config logs ((h ++ e ∷ []) ++ rest) = subst (IsOrder config logs) split order in
      (goes_last config logs h e (begins_front config logs (h ++ e ∷ []) rest (order_begins ((h ++ e ∷ []) ++ rest) whole)), record { rest = rest; order = whole })

  module _ (valid : IsConfiguration config) (front : History) (leads : IsBeginning config logs front) where
    -- an order without more calls of any partition is no longer
    whole_front : (h : History) → IsOrder config logs h → IsWithin h front → IsOrder config logs front
    whole_front h order within = record {
      lawful = leads.lawful;
      entries = λ p. leads.entries p ∙ take_all (length (entries_of p front)) (log_in logs p)
          (let all = ap (λ (es : History). length es) (order.entries p) in let few = within p in omega (arith, all, few));
    }

    within_push : (h : History) (e : Entry) → IsBeginning config logs h → GoesOn config logs h e.partition e → IsWithin h front
        → length (entries_of e.partition h) < length (entries_of e.partition front) → IsWithin (h ++ e ∷ []) front
    within_push h e begins goes within fewer q = ⊎_elim
        (λ (own : e.partition ≡ q).
        let one = made_mine config logs h e.partition e begins goes in
        subst (λ (n : ℕ). length (entries_of n (h ++ e ∷ [])) ≤ length (entries_of n front)) own (omega (arith, one, fewer)))
        (λ (apart : e.partition ≡ q → ⊥). let same = made_others config logs h e.partition e begins goes q apart in let few = within q in omega (arith, same, few))
        (cases_eq e.partition q)

    pub stuck : (IsOrder config logs front → ⊥) → ((p : ℕ) → p < length config.partitions → NeverNext config logs front p) → HasNoOrder config logs
    stuck not_whole never history order = none_ends [] history (begins_nil config logs) (λ p. omega arith) order
      where
        none_ends : (h rest : History) → IsBeginning config logs h → IsWithin h front → IsOrder config logs (h ++ rest) → ⊥
        none_ends h [] begins within order = not_whole (whole_front h (subst (IsOrder config logs) (append-nil h) order) within)
        none_ends h (e ∷ rest) begins within order =
            let p = e.partition in
            let first = goes_first h e rest order in
            let goes = first.0 in
            ⊎_elim
            (λ (fewer : length (entries_of p h) < length (entries_of p front)).
            none_ends (h ++ e ∷ []) rest (begins_push config logs h p e begins goes valid) (within_push h e begins goes within fewer) (subst (IsOrder config logs) (sym (append_assoc h (e ∷ []) rest)) order))
            (λ (no_fewer : length (entries_of p front) ≤ length (entries_of p h)).
            let few = within p in
            let same : length (entries_of p h) ≡ length (entries_of p front) = omega (arith, few, no_fewer) in
            never p goes.lawful.0 h begins within same e goes first.1)
            (cases_lt (length (entries_of p h)) (length (entries_of p front)))

    -- if something that stays true prevents a call, no order begins with a history in which it is true and the call
    -- isn't made yet
    pub never_passed : (q j : ℕ) (f : Entry) → slice_get (log_in logs q) j ≡ Some f → (P : History → Type 0)
        → ((h : History) (e : Entry) → P h → P (h ++ e ∷ []))
        → ((h : History) → IsBeginning config logs h → length (entries_of q h) ≡ j → P h → GoesOn config logs h q f → ⊥)
        → (h : History) → IsBeginning config logs h → length (entries_of q h) ≤ j → P h → Ends config logs h → ⊥
    never_passed q j f here P stays never h begins few holds ends = passes h ends.rest begins few holds ends.order
      where
        passes : (h rest : History) → IsBeginning config logs h → length (entries_of q h) ≤ j → P h → IsOrder config logs (h ++ rest) → ⊥
        passes h [] begins few holds order =
            let all = ap (λ (es : History). length es) ((subst (IsOrder config logs) (append-nil h) order).entries q) in
            let inside = slice_get_within (log_in logs q) j f here in
            omega (arith, all, few, inside)
        passes h (e ∷ rest) begins few holds order =
            let first = goes_first h e rest order in
            let goes = first.0 in
            let on = passes (h ++ e ∷ []) rest (begins_push config logs h e.partition e begins goes valid) in
            let whole = subst (IsOrder config logs) (sym (append_assoc h (e ∷ []) rest)) order in
            ⊎_elim
            (λ (own : e.partition ≡ q). ⊎_elim
            (λ (fewer : length (entries_of q h) < j).
            let one = subst (λ (n : ℕ). length (entries_of n (h ++ e ∷ [])) ≡ suc (length (entries_of n h))) own (made_mine config logs h e.partition e begins goes) in
            on (omega (arith, one, fewer)) (stays h e holds) whole)
            (λ (no_fewer : j ≤ length (entries_of q h)).
            let same : length (entries_of q h) ≡ j = omega (arith, few, no_fewer) in
            let mine : GoesOn config logs h q e = subst (λ (n : ℕ). GoesOn config logs h n e) own goes in
            let is : e ≡ f = (let both : Some e ≡ Some f = sym mine.next ∙ (ap (slice_get (log_in logs q)) same ∙ here) in cc) in
            never h begins same holds (subst (GoesOn config logs h q) is mine))
            (cases_lt (length (entries_of q h)) j))
            (λ (apart : e.partition ≡ q → ⊥).
            let same = made_others config logs h e.partition e begins goes q apart in
            on (omega (arith, same, few)) (stays h e holds) whole)
            (cases_eq e.partition q)
