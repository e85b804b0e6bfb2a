-- Histories in which each partition made the first calls of its log, with one entry more or less.
use Rattle.apex_log_orders.proofs.Common.{◌≡◌, ◌⊎◌, inl, inr, ⊎_elim, ℕ, zero, suc, ◌<◌, ◌≤◌, List, [], ◌∷◌, ◌++◌, length, take, Option, Some, refl, sym, ap, ◌∙◌, subst, arith, append_assoc, append-nil, length-append, slice_get, option_to_list, unwrap_or, cases_eq, cases_lt, take-append-le, take_all, slice_get_within, slice_get_past, Configuration, IsConfiguration, Entry, History, entries_of, at_seam, stays_before}
use Rattle.apex_log_orders.proofs.Common.{take_one_more, CallPlace, Logs, log_in, IsOrder, IsBeginning, entry_at, entries_at, GoesOn, Ends}
use Rattle.apex_ports.specs.Lawful.{IsLawful, IsLawfulEntry}
use Rattle.apex_orders.proofs.GoingOn.{lawful_here, push_entry}
use Rattle.apex_orders.proofs.Walks.{own_entry, other_entry, entries_of-append}

-- ---- lists

pub front_begins : {X : Type 0} (xs ys zs : List X) (n : ℕ) → xs ++ ys ≡ take n zs → xs ≡ take (length xs) zs
front_begins [] ys zs n is = refl
front_begins (x ∷ xs) ys [] zero is = absurd cc
front_begins (x ∷ xs) ys [] (suc n) is = absurd cc
front_begins (x ∷ xs) ys (z ∷ zs) zero is = absurd cc
front_begins (x ∷ xs) ys (z ∷ zs) (suc n) is =
    let same : x ≡ z = cc in
    let rest : xs ++ ys ≡ take n zs = cc in
    λ i. same i ∷ front_begins xs ys zs n rest i

-- ---- one more entry

module _ (config : Configuration) (logs : Logs) where
  pub begins_nil : IsBeginning config logs []
  begins_nil = record { lawful = λ k entry here. absurd cc; entries = λ p. refl }

  module _ (h : History) (p : ℕ) (e : Entry) (begins : IsBeginning config logs h) (goes : GoesOn config logs h p e) where
    mine : (q : ℕ) → p ≡ q → entries_of q (h ++ e ∷ []) ≡ entries_of q h ++ e ∷ []
    mine q own = entries_of-append q h (e ∷ []) ∙ ap (λ (es : History). entries_of q h ++ es) (own_entry q e (goes.own ∙ own))

    others : (q : ℕ) → (p ≡ q → ⊥) → entries_of q (h ++ e ∷ []) ≡ entries_of q h
    others q apart = entries_of-append q h (e ∷ []) ∙ (ap (λ (es : History). entries_of q h ++ es) (other_entry q e (λ same. apart (sym goes.own ∙ same))) ∙ append-nil (entries_of q h))

    entries_more : (q : ℕ) → entries_of q (h ++ e ∷ []) ≡ take (length (entries_of q (h ++ e ∷ []))) (log_in logs q)
    entries_more q = ⊎_elim
        (λ (own : p ≡ q).
        let next : slice_get (log_in logs q) (length (entries_of q h)) ≡ Some e = subst (λ (n : ℕ). slice_get (log_in logs n) (length (entries_of n h)) ≡ Some e) own goes.next in
        let count : length (entries_of q h ++ e ∷ []) ≡ suc (length (entries_of q h)) = omega (arith, length-append (entries_of q h) (e ∷ [])) in
        let longer : entries_of q h ++ e ∷ [] ≡ take (length (entries_of q h ++ e ∷ [])) (log_in logs q) =
        ap (λ (es : History). es ++ e ∷ []) (begins.entries q) ∙ (sym (take_one_more (log_in logs q) (length (entries_of q h)) e next) ∙ ap (λ (n : ℕ). take n (log_in logs q)) (sym count)) in
        subst (λ (es : History). es ≡ take (length es) (log_in logs q)) (sym (mine q own)) longer)
        (λ (apart : p ≡ q → ⊥). subst (λ (es : History). es ≡ take (length es) (log_in logs q)) (sym (others q apart)) (begins.entries q))
        (cases_eq p q)

    pub begins_push : IsConfiguration config → IsBeginning config logs (h ++ e ∷ [])
    begins_push valid = record {
      lawful = (push_entry config h e (record { valid = valid; lawful = begins.lawful }) goes.lawful).lawful;
      entries = entries_more;
    }

    pub made_mine : length (entries_of p (h ++ e ∷ [])) ≡ suc (length (entries_of p h))
    made_mine = ap (λ (es : History). length es) (mine p refl) ∙ omega (arith, length-append (entries_of p h) (e ∷ []))

    pub made_others : (q : ℕ) → (p ≡ q → ⊥) → length (entries_of q (h ++ e ∷ [])) ≡ length (entries_of q h)
    made_others q apart = ap (λ (es : History). length es) (others q apart)

  -- ---- one entry less

  lawful_front : (h rest : History) → IsLawful config (h ++ rest) → IsLawful config h
  lawful_front h rest lawful k entry here =
      let within : k < length h = slice_get_within h k entry here in
      subst (λ (g : History). IsLawfulEntry config g entry) (take-append-le k h rest (omega (arith, within))) (lawful k entry (stays_before h rest k entry here))

  pub begins_front : (h rest : History) → IsBeginning config logs (h ++ rest) → IsBeginning config logs h
  begins_front h rest begins = record {
    lawful = lawful_front h rest begins.lawful;
    entries = λ q. front_begins (entries_of q h) (entries_of q rest) (log_in logs q) (length (entries_of q (h ++ rest))) (sym (entries_of-append q h rest) ∙ begins.entries q);
  }

  -- the last entry of a beginning is the next of its partition before it
  pub goes_last : (h : History) (e : Entry) → IsBeginning config logs (h ++ e ∷ []) → GoesOn config logs h e.partition e
  goes_last h e begins =
      let p = e.partition in
      let whole : entries_of p (h ++ e ∷ []) ≡ entries_of p h ++ e ∷ [] = entries_of-append p h (e ∷ []) ∙ ap (λ (es : History). entries_of p h ++ es) (own_entry p e refl) in
      record {
        next = taken_at (log_in logs p) (length (entries_of p (h ++ e ∷ []))) (entries_of p h) [] e (sym whole ∙ begins.entries p);
        own = refl;
        lawful = lawful_here config h e [] begins.lawful;
      }
    where
      taken_at : (zs : History) (n : ℕ) (xs ys : History) (x : Entry) → xs ++ x ∷ ys ≡ take n zs → slice_get zs (length xs) ≡ Some x
      taken_at [] zero [] ys x is = absurd cc
      taken_at [] (suc n) [] ys x is = absurd cc
      taken_at (z ∷ zs) zero [] ys x is = absurd cc
      taken_at (z ∷ zs) (suc n) [] ys x is = cc
      taken_at [] zero (w ∷ xs) ys x is = absurd cc
      taken_at [] (suc n) (w ∷ xs) ys x is = absurd cc
      taken_at (z ∷ zs) zero (w ∷ xs) ys x is = absurd cc
      taken_at (z ∷ zs) (suc n) (w ∷ xs) ys x is = taken_at zs n xs ys x cc

  -- ---- orders

  -- an order that begins with the history is the history, or continues with the next call of a partition
  pub ends_cases : (h : History) → Ends config logs h → IsOrder config logs h ⊎ ((p : ℕ) × (e : Entry) × (p < length config.partitions) × (GoesOn config logs h p e) × Ends config logs (h ++ e ∷ []))
  ends_cases h ends = of_rest ends.rest ends.order
    where
      of_rest : (rest : History) → IsOrder config logs (h ++ rest) → IsOrder config logs h ⊎ ((p : ℕ) × (e : Entry) × (p < length config.partitions) × (GoesOn config logs h p e) × Ends config logs (h ++ e ∷ []))
      of_rest [] order = inl (subst (IsOrder config logs) (append-nil h) order)
      of_rest (e ∷ rest) order =
          let p = e.partition in
          let here = lawful_here config h e rest order.lawful in
          let split : entries_of p (h ++ e ∷ rest) ≡ entries_of p h ++ e ∷ entries_of p rest =
          entries_of-append p h (e ∷ rest) ∙ ap (λ (es : History). entries_of p h ++ es) (entries_of-append p (e ∷ []) rest ∙ ap (λ (es : History). es ++ entries_of p rest) (own_entry p e refl)) in
          let next : slice_get (log_in logs p) (length (entries_of p h)) ≡ Some e =
          ap (λ (es : History). slice_get es (length (entries_of p h))) (sym (order.entries p) ∙ split) ∙ at_seam (entries_of p h) e (entries_of p rest) in
          inr (p, e, here.0, record { next = next; own = refl; lawful = here }, record { rest = rest; order = subst (IsOrder config logs) (sym (append_assoc h (e ∷ []) rest)) order })

  -- two next entries of one partition are equal
  pub same_next : (h : History) (p : ℕ) (e other : Entry) → GoesOn config logs h p e → GoesOn config logs h p other → e ≡ other
  same_next h p e other goes goes_too = let both : Some e ≡ Some other = sym goes.next ∙ goes_too.next in cc

  -- each partition has made all calls of its log
  pub all_made : (h : History) → length logs ≡ length config.partitions → IsBeginning config logs h
      → ((p : ℕ) → p < length config.partitions → length (entries_of p h) ≡ length (log_in logs p)) → IsOrder config logs h
  all_made h count begins all = record { lawful = begins.lawful; entries = λ p. whole p }
    where
      no_log : (p : ℕ) → length config.partitions ≤ p → log_in logs p ≡ []
      no_log p beyond = ap (λ (o : Option History). unwrap_or o []) (slice_get_past logs p (omega (arith, count, beyond)))

      whole : (p : ℕ) → entries_of p h ≡ log_in logs p
      whole p = begins.entries p ∙ take_all (length (entries_of p h)) (log_in logs p) (long p (cases_lt p (length config.partitions)))
        where
          long : (p : ℕ) → (p < length config.partitions) ⊎ (length config.partitions ≤ p) → length (log_in logs p) ≤ length (entries_of p h)
          long p (inl within) = let same = all p within in omega (arith, same)
          long p (inr beyond) = let none = ap (λ (log : History). length log) (no_log p beyond) in omega (arith, none)

-- ---- places

module _ (logs : Logs) where
  pub entries_at-append : (places more : List CallPlace) → entries_at logs (places ++ more) ≡ entries_at logs places ++ entries_at logs more
  entries_at-append [] more = refl
  entries_at-append (place ∷ places) more =
      ap (λ (es : History). option_to_list (entry_at logs place) ++ es) (entries_at-append places more) ∙ sym (append_assoc (option_to_list (entry_at logs place)) (entries_at logs places) (entries_at logs more))

  pub entries_at-push : (places : List CallPlace) (place : CallPlace) (e : Entry) → entry_at logs place ≡ Some e → entries_at logs (places ++ place ∷ []) ≡ entries_at logs places ++ e ∷ []
  entries_at-push places place e here =
      entries_at-append places (place ∷ []) ∙ ap (λ (o : Option Entry). entries_at logs places ++ (option_to_list o ++ [])) here
