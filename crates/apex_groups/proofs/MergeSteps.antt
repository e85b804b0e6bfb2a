-- Steps of a merge: each call that is added is due, and how many calls are left.
use Rattle.apex_groups.proofs.Common.{◌≡◌, ◌≢◌, ◌⊎◌, inl, inr, ⊎_elim, ℕ, zero, suc, ◌+◌, ◌-◌, ◌<◌, ◌≤◌, Bool, true, false, List, [], ◌∷◌, ◌++◌, length, set, Option, Some, None, refl, sym, ap, ◌∙◌, subst, arith, append-nil, length-append, length-set, slice_get, slice_index_or, option_map, cases_eq, cases_lt, false≢true, nat_tests, group_of, in_group, slice_get_past, slice_get_within, IfSome, replicate, Configuration, Entry, History, entries_of, Scripts, script_of, next_entries, history_of}
use Rattle.apex_groups.proofs.Common.{entries_for, IsDone, IsNext, answered, next_cases, one_longer, own_entry, entries_of-append, IsFirstUntil, IsFoundBefore, IsPast, AreNextPast, AreCounted, next_of, moment_of, next_moment}
use Rattle.std.proofs.lemmas.List.{get_or-set_same, get_or-set_other, get_or-replicate, length-replicate}
use Rattle.apex_types.specs.declared.call.Call.{Call}
use Rattle.apex_types.specs.declared.moment.Moment.{Moment}
use Rattle.apex_groups.proofs.Lists.{item_at}
use Rattle.apex_orders.specs.Clock.{IsNextDue}
use Rattle.apex_orders.proofs.SearchLemmas.{behind, longer_is_order}
use Rattle.apex_orders.proofs.Walks.{none_ordered, other_entry, same_history}

-- ---- moments

pub moment_due : (clock : Bool) (one other : Moment × Call) → (clock ≡ true → one.0.0 ≤ other.0.0) → moment_of clock one ≤ moment_of clock other
moment_due true one other due = due refl
moment_due false one other due = omega arith

due_moment : (clock : Bool) (one other : Moment × Call) → moment_of clock one ≤ moment_of clock other → clock ≡ true → one.0.0 ≤ other.0.0
due_moment true one other less on = less
due_moment false one other less on = absurd (false≢true on)

-- ---- the first call outside

earlier : (last : Option ℕ) (at other : ℕ) → (IsPast last at → ⊥) → IsPast last other → at ≤ other
earlier None at other before past = absurd past
earlier (Some limit) at other before past =
    ⊎_elim (λ (less : at < limit). omega (arith, less, past)) (λ (no_less : limit ≤ at). absurd (before no_less)) (cases_lt at limit)

later : (limit : Option ℕ) (at other : ℕ) → at ≤ other → IsPast limit at → IsPast limit other
later None at other less past = absurd past
later (Some limit) at other less past = omega (arith, less, past)

pub past_or_before : (last : Option ℕ) (at : ℕ) → IsPast last at ⊎ (IsPast last at → ⊥)
past_or_before None at = inr (λ past. past)
past_or_before (Some last) at = ⊎_elim (λ (less : at < last). inr (λ past. absurd (omega (arith, less, past)))) (λ (past : last ≤ at). inl past) (cases_lt at last)

module _ (inside : ℕ → Bool) (next : ℕ → Option ℕ) (limit : Option ℕ) where
  pub first_none : IsFirstUntil inside next limit 0 None limit
  first_none = record { found = refl; past = λ q at below out here. absurd (omega (arith, below)); within = tt }

  within_more : (n : ℕ) (first : Option ℕ) → IfSome first (λ p. p < n) → IfSome first (λ p. p < n + 1)
  within_more n None is = tt
  within_more n (Some p) is = omega (arith, is)

  module _ (n : ℕ) (first last : Option ℕ) (is : IsFirstUntil inside next limit n first last) where
    -- the next partition is inside, or its next call comes no earlier
    pub first_pass : ((at : ℕ) → inside n ≡ false → next n ≡ Some at → IsPast last at) → IsFirstUntil inside next limit (n + 1) first last
    first_pass over = record {
      found = is.found;
      past = λ q at below out here. ⊎_elim
          (λ (same : q ≡ n). over at (ap inside (sym same) ∙ out) (ap next (sym same) ∙ here))
          (λ (other : q ≡ n → ⊥). is.past q at (omega (arith, below, other)) out here)
          (cases_eq q n);
      within = within_more n first is.within;
    }

    before_limit : (f : Option ℕ) → IsFoundBefore inside next limit last f → (at : ℕ) → (IsPast last at → ⊥) → IsPast limit at → ⊥
    before_limit None same at before past = before (subst (λ (o : Option ℕ). IsPast o at) (sym same) past)
    before_limit (Some p) found at before past =
        let no_more : at ≤ found.at = ⊎_elim
        (λ (less : at < found.at). omega (arith, less))
        (λ (no_less : found.at ≤ at). absurd (before (subst (λ (o : Option ℕ). IsPast o at) (sym found.is) no_less)))
        (cases_lt at found.at) in
        found.before (later limit at found.at no_more past)

    pub first_take : (at : ℕ) → inside n ≡ false → next n ≡ Some at → (IsPast last at → ⊥) → IsFirstUntil inside next limit (n + 1) (Some n) (Some at)
    first_take at out here before = record {
      found = record { at = at; is = refl; outside = out; here = here; before = before_limit first is.found at before };
      past = λ q other below out_too there. ⊎_elim
          (λ (same : q ≡ n). let both : Some at ≡ Some other = sym here ∙ (ap next (sym same) ∙ there) in let equal : at ≡ other = cc in omega (arith, equal))
          (λ (apart : q ≡ n → ⊥). earlier last at other before (is.past q other (omega (arith, below, apart)) out_too there))
          (cases_eq q n);
      within = omega arith;
    }

-- a partition whose number isn't 1 is outside
pub not_in : (groups : List ℕ) (p : ℕ) → (group_of groups p ≡ 1 → ⊥) → in_group groups 1 p ≡ false
not_in groups p apart = grind (arith, nat_tests, apart)

-- ---- how many calls were made

pub read_any : (xs : List ℕ) (i d : ℕ) → i < length xs → slice_index_or xs i d ≡ slice_index_or xs i 0
read_any [] i d within = absurd (omega (arith, within))
read_any (x ∷ xs) zero d within = refl
read_any (x ∷ xs) (suc i) d within = read_any xs i d (omega (arith, within))

module _ (h : History) (e : Entry) where
  made_same : (q : ℕ) → e.partition ≢ q → length (entries_of q (h ++ e ∷ [])) ≡ length (entries_of q h)
  made_same q apart = ap (λ (es : History). length es) (entries_of-append q h (e ∷ []) ∙ (ap (λ (es : History). entries_of q h ++ es) (other_entry q e apart) ∙ append-nil (entries_of q h)))

  pub made_one : (q : ℕ) → e.partition ≡ q → length (entries_of q (h ++ e ∷ [])) ≡ suc (length (entries_of q h))
  made_one q own =
      let split = ap (λ (es : History). length es) (entries_of-append q h (e ∷ []) ∙ ap (λ (es : History). entries_of q h ++ es) (own_entry q e own)) in
      omega (arith, split, length-append (entries_of q h) (e ∷ []))

module _ (config : Configuration) (scripts : Scripts) where
  -- the history after the partition's next call
  abbrev pub ahead : History → ℕ → History
  ahead h p = h ++ next_entries config scripts h p

  pub next_same : (h : History) (p q : ℕ) → p ≢ q → length (entries_of q (ahead h p)) ≡ length (entries_of q h)
  next_same h p q apart = ⊎_elim
      (λ (done : IsDone config scripts h p). ap (λ (g : History). length (entries_of q g)) (same_history config scripts h p done))
      (λ (next : IsNext config scripts h p). ap (λ (g : History). length (entries_of q g)) (one_longer config scripts h p next) ∙ made_same h (answered config scripts h p next.timed) q apart)
      (next_cases config scripts h p)

  pub next_one : (h : History) (p : ℕ) (timed : Moment × Call) → next_of scripts h p ≡ Some timed → length (entries_of p (ahead h p)) ≡ suc (length (entries_of p h))
  next_one h p timed here =
      ap (λ (es : History). length (entries_of p (h ++ es))) (ap (entries_for config h p) here) ∙ made_one h (answered config scripts h p timed) p refl

  pub next_none : (h : History) (p : ℕ) → next_of scripts h p ≡ None → ahead h p ≡ h
  next_none h p none = ap (λ (es : History). h ++ es) (ap (entries_for config h p) none) ∙ append-nil h

  -- ---- counted by a list

  pub counted_none : AreCounted config scripts [] (replicate (length config.partitions) 0)
  counted_none = record {
    count = length-replicate (length config.partitions) 0;
    valid = none_ordered config scripts;
    each = λ p below. get_or-replicate (length config.partitions) p 0 0 below;
  }

  module _ (order made : List ℕ) (counted : AreCounted config scripts order made) where
    abbrev h : History
    h = history_of config scripts order

    pub counted_next : (clock : Bool) (p : ℕ) → p < length config.partitions → next_moment clock scripts made p ≡ option_map (moment_of clock) (next_of scripts h p)
    counted_next clock p within = ap (λ (n : ℕ). option_map (moment_of clock) (slice_get (script_of scripts p) n)) (counted.each p within)

    module _ (p : ℕ) (within : p < length config.partitions) where
      pub counted_more : slice_index_or made p 0 < length (script_of scripts p) → AreCounted config scripts (order ++ p ∷ []) (set made p (slice_index_or made p 0 + 1))
      counted_more more = record {
        count = length-set made p (slice_index_or made p 0 + 1) ∙ counted.count;
        valid = longer_is_order config scripts order p counted.valid within;
        each = λ q below. ⊎_elim (mine q) (others q below) (cases_eq p q);
      }
        where
          made_now : List ℕ
          made_now = set made p (slice_index_or made p 0 + 1)

          IsCount : ℕ → Type 0
          IsCount q = slice_index_or made_now q 0 ≡ length (entries_of q (history_of config scripts (order ++ p ∷ [])))

          mine : (q : ℕ) → p ≡ q → IsCount q
          mine q own = subst IsCount own here
            where
              timed : (one : Moment × Call) × (next_of scripts h p ≡ Some one)
              timed = item_at (script_of scripts p) (length (entries_of p h)) (let same = counted.each p within in omega (arith, more, same))

              here : IsCount p
              here =
                  let put : slice_index_or made_now p 0 ≡ slice_index_or made p 0 + 1 = get_or-set_same made p (slice_index_or made p 0 + 1) 0 (let few = counted.count in omega (arith, few, within)) in
                  let grown = next_one h p timed.0 timed.1 in
                  let walked = ap (λ (g : History). length (entries_of p g)) (behind config scripts order p) in
                  let same = counted.each p within in
                  omega (arith, put, grown, walked, same)

          others : (q : ℕ) → q < length config.partitions → (p ≡ q → ⊥) → IsCount q
          others q below apart =
              get_or-set_other made p q (slice_index_or made p 0 + 1) 0 (λ same. apart (sym same))
              ∙ (counted.each q below
              ∙ sym (ap (λ (g : History). length (entries_of q g)) (behind config scripts order p) ∙ next_same h p q apart))

      pub counted_past : length (script_of scripts p) ≤ slice_index_or made p 0 → AreCounted config scripts (order ++ p ∷ []) made
      counted_past past = record {
        count = counted.count;
        valid = longer_is_order config scripts order p counted.valid within;
        each = λ q below. counted.each q below ∙ ap (λ (g : History). length (entries_of q g)) (sym (behind config scripts order p ∙ next_none h p nothing));
      }
        where
          nothing : next_of scripts h p ≡ None
          nothing = slice_get_past (script_of scripts p) (length (entries_of p h)) (let same = counted.each p within in omega (arith, past, same))

  -- ---- how many calls are left

  pub left : ℕ → History → ℕ
  left zero h = 0
  left (suc n) h = left n h + (length (script_of scripts n) - length (entries_of n h))

  left_same : (h : History) (p n : ℕ) → n ≤ p → left n (ahead h p) ≡ left n h
  unfolding left
  left_same h p zero below = refl
  left_same h p (suc n) below =
      let before = left_same h p n (omega (arith, below)) in
      let made = next_same h p n (λ same. absurd (omega (arith, below, same))) in
      omega (arith, before, made)

  left_less : (h : History) (p n : ℕ) (timed : Moment × Call) → next_of scripts h p ≡ Some timed → p < n → left n (ahead h p) < left n h
  unfolding left
  left_less h p zero timed here below = absurd (omega (arith, below))
  left_less h p (suc n) timed here below = ⊎_elim
      (λ (own : p ≡ n).
      let before = left_same h p n (omega (arith, own)) in
      let made = subst (λ (q : ℕ). length (entries_of q (ahead h p)) ≡ suc (length (entries_of q h))) own (next_one h p timed here) in
      let some = subst (λ (q : ℕ). length (entries_of q h) < length (script_of scripts q)) own (slice_get_within (script_of scripts p) (length (entries_of p h)) timed here) in
      omega (arith, before, made, some))
      (λ (apart : p ≢ n).
      let before = left_less h p n timed here (omega (arith, below, apart)) in
      let made = next_same h p n apart in
      omega (arith, before, made))
      (cases_eq p n)

  -- calls that the order leaves
  abbrev pub left_after : List ℕ → ℕ
  left_after order = left (length config.partitions) (history_of config scripts order)

  pub fewer_left : (order : List ℕ) (p : ℕ) (timed : Moment × Call) → next_of scripts (history_of config scripts order) p ≡ Some timed → p < length config.partitions
      → left_after (order ++ p ∷ []) < left_after order
  fewer_left order p timed here within =
      subst (λ (g : History). left (length config.partitions) g < left_after order) (sym (behind config scripts order p)) (left_less (history_of config scripts order) p (length config.partitions) timed here within)

-- ---- due calls

module _ (clock : Bool) (scripts : Scripts) (inside : ℕ → Bool) (h : History) (p : ℕ) (timed : Moment × Call) (here : next_of scripts h p ≡ Some timed) where
  -- if no next call comes before the partition's, that is due
  pub due_of_past : AreNextPast clock scripts h inside true (Some (moment_of clock timed)) → AreNextPast clock scripts h inside false (Some (moment_of clock timed)) → IsNextDue clock scripts h p
  due_of_past mine theirs one at on q other there = by_test (inside q) refl
    where
      same : timed ≡ one
      same = let both : Some timed ≡ Some one = sym here ∙ at in cc

      by_test : (b : Bool) → inside q ≡ b → one.0.0 ≤ other.0.0
      by_test true is = subst (λ (t : Moment × Call). t.0.0 ≤ other.0.0) same (due_moment clock timed other (mine q other is there) on)
      by_test false out = subst (λ (t : Moment × Call). t.0.0 ≤ other.0.0) same (due_moment clock timed other (theirs q other out there) on)

  -- the first call outside is due if no call inside comes before the limit
  pub due_of_first : (limit : Option ℕ) → (IsPast limit (moment_of clock timed) → ⊥) → AreNextPast clock scripts h inside true limit
      → AreNextPast clock scripts h inside false (Some (moment_of clock timed)) → IsNextDue clock scripts h p
  due_of_first limit before mine theirs = due_of_past (λ q other is there. earlier limit (moment_of clock timed) (moment_of clock other) before (mine q other is there)) theirs
