-- Each clocked beginning can be finished: a call with the least moment comes next.
use Rattle.apex_orders.proofs.Common.{◌≡◌, ◌≢◌, ◌⊎◌, inl, inr, ⊎_elim, ℕ, zero, suc, ◌+◌, ◌-◌, ◌<◌, ◌≤◌, Bool, List, [], ◌∷◌, ◌++◌, length, Option, Some, None, refl, sym, ap, ◌∙◌, subst, arith, append-nil, length-append, slice_get, cases_eq, cases_lt, slice_get_within, Call, Moment, Configuration, Entry, History, entries_of, IsNextDue, IsClocked, Scripts, script_of, calls_of, entries_for, IsOrder, next_entries}
use Rattle.apex_orders.proofs.Common.{continued}
use Rattle.apex_orders.proofs.ChoiceLemmas.{has_script, one_more}
use Rattle.apex_orders.proofs.ClockLemmas.{clocked_next}
use Rattle.apex_orders.proofs.Lists.{none_past}
use Rattle.apex_orders.proofs.Walks.{IsGood, IsNext, answered, calls_count, entries_of-append, first_ordered, good_next, none_ordered, one_longer, other_entry, own_entry}

module _ (scripts : Scripts) where
  abbrev next_of : History → ℕ → Option (Moment × Call)
  next_of h p = slice_get (script_of scripts p) (length (entries_of p h))

  -- ---- a next call with the least moment

  abbrev NoneHas : History → ℕ → Type 0
  NoneHas h n = (q : ℕ) → q < n → next_of h q ≡ None

  abbrev IsNoLess : History → Moment × Call → ℕ → Type 0
  IsNoLess h timed q = (other : Moment × Call) → next_of h q ≡ Some other → timed.0.0 ≤ other.0.0

  -- none of the first n partitions has a next call with a smaller moment than this one's
  record IsLeast (h : History) (n : ℕ) : Type 0 where
    p : ℕ
    timed : Moment × Call
    next : next_of h p ≡ Some timed
    least : (q : ℕ) → q < n → IsNoLess h timed q

  least_below : (h : History) (n : ℕ) → NoneHas h n ⊎ IsLeast h n
  least_below h zero = inl (λ q below. absurd (omega (arith, below)))
  least_below h (suc n) = of_next (next_of h n) refl (least_below h n)
    where
      of_next : (o : Option (Moment × Call)) → next_of h n ≡ o → NoneHas h n ⊎ IsLeast h n → NoneHas h (suc n) ⊎ IsLeast h (suc n)
      of_next None none before =
          ⊎_elim
          (λ (all : NoneHas h n). inl (λ q below. one_more (λ (r : ℕ). next_of h r ≡ None) n all none q (omega (arith, below))))
          (λ (was : IsLeast h n). inr (record {
            p = was.p;
            timed = was.timed;
            next = was.next;
            least = λ q below. one_more (IsNoLess h was.timed) n was.least (λ other there. absurd (let both = sym none ∙ there in cc)) q (omega (arith, below));
          }))
          before
      of_next (Some timed) here before =
          let own : (other : Moment × Call) → next_of h n ≡ Some other → timed ≡ other = λ other there. let both : Some timed ≡ Some other = sym here ∙ there in cc in
          let first : IsNoLess h timed n = λ other there. let same = ap (λ (one : Moment × Call). one.0.0) (own other there) in omega (arith, same) in
          ⊎_elim
          (λ (all : NoneHas h n). inr (record {
            p = n;
            timed = timed;
            next = here;
            least = λ q below. one_more (IsNoLess h timed) n (λ r inside other there. absurd (let both = sym (all r inside) ∙ there in cc)) first q (omega (arith, below));
          }))
          (λ (was : IsLeast h n).
          ⊎_elim
          (λ (less : timed.0.0 < was.timed.0.0). inr (record {
            p = n;
            timed = timed;
            next = here;
            least = λ q below. one_more (IsNoLess h timed) n (λ r inside other there. let before = was.least r inside other there in omega (arith, less, before)) first q (omega (arith, below));
          }))
          (λ (least : was.timed.0.0 ≤ timed.0.0). inr (record {
            p = was.p;
            timed = was.timed;
            next = was.next;
            least = λ q below. one_more (IsNoLess h was.timed) n was.least
                (λ other there. let same = ap (λ (one : Moment × Call). one.0.0) (own other there) in omega (arith, least, same)) q (omega (arith, below));
          }))
          (cases_lt timed.0.0 was.timed.0.0))
          before

  -- ---- how many calls are left

  left : ℕ → History → ℕ
  left zero h = 0
  left (suc n) h = left n h + (length (script_of scripts n) - length (entries_of n h))

  module _ (h : History) (e : Entry) (more : length (entries_of e.partition h) < length (script_of scripts e.partition)) where
    pub same_made : (q : ℕ) → e.partition ≢ q → length (entries_of q (h ++ e ∷ [])) ≡ length (entries_of q h)
    same_made q apart = ap (λ (es : List Entry). length es) (entries_of-append q h (e ∷ []) ∙ (ap (λ (es : List Entry). entries_of q h ++ es) (other_entry q e apart) ∙ append-nil (entries_of q h)))

    pub one_made : length (entries_of e.partition (h ++ e ∷ [])) ≡ suc (length (entries_of e.partition h))
    one_made =
        let q = e.partition in
        let split = ap (λ (es : List Entry). length es) (entries_of-append q h (e ∷ []) ∙ ap (λ (es : List Entry). entries_of q h ++ es) (own_entry q e refl)) in
        omega (arith, split, length-append (entries_of q h) (e ∷ []))

    left_same : (n : ℕ) → n ≤ e.partition → left n (h ++ e ∷ []) ≡ left n h
    unfolding left
    left_same zero below = refl
    left_same (suc n) below =
        let before = left_same n (omega (arith, below)) in
        let made = same_made n (λ same. absurd (omega (arith, below, same))) in
        omega (arith, before, made)

    left_less : (n : ℕ) → e.partition < n → left n (h ++ e ∷ []) < left n h
    unfolding left
    left_less zero below = absurd (omega (arith, below))
    left_less (suc n) below =
        ⊎_elim
        (λ (own : e.partition ≡ n).
        let before = left_same n (omega (arith, own)) in
        let made = subst (λ (q : ℕ). length (entries_of q (h ++ e ∷ [])) ≡ suc (length (entries_of q h))) own one_made in
        let some = subst (λ (q : ℕ). length (entries_of q h) < length (script_of scripts q)) own more in
        omega (arith, before, made, some))
        (λ (apart : e.partition ≢ n).
        let before = left_less n (omega (arith, below, apart)) in
        let made = same_made n apart in
        omega (arith, before, made))
        (cases_eq e.partition n)

-- ---- all calls

module _ (config : Configuration) (scripts : Scripts) where
  -- an order that completes the history
  pub record Finishes (h : History) (IsFinished : History → Type 0) : Type 0 where
    pub order : List ℕ
    pub is_order : IsOrder config order
    pub finished : IsFinished (continued config scripts h order)

  -- each of the first n partitions has made all its calls
  abbrev pub AreFull : ℕ → History → Type 0
  AreFull n h = (p : ℕ) → p < n → length (script_of scripts p) ≤ length (calls_of p h)

  module _ (clock : Bool) (count : length scripts ≡ length config.partitions) where
    abbrev partitions : ℕ
    partitions = length config.partitions

    abbrev IsFinished : History → Type 0
    IsFinished h = AreFull partitions h × IsClocked clock scripts h

    all_made : (h : History) → IsClocked clock scripts h → NoneHas scripts h partitions → Finishes h IsFinished
    all_made h clocked none = record {
      order = [];
      is_order = none_ordered config scripts;
      finished = (
        λ p below. let past = none_past (script_of scripts p) (length (entries_of p h)) (none p below) in let made = calls_count p h in omega (arith, past, made),
        clocked,
      );
    }

    record IsStep (h : History) : Type 0 where
      p : ℕ
      within : p < partitions
      good : IsGood config scripts (h ++ next_entries config scripts h p)
      clocked : IsClocked clock scripts (h ++ next_entries config scripts h p)
      fewer : left scripts partitions (h ++ next_entries config scripts h p) < left scripts partitions h

    step_of : (h : History) → IsGood config scripts h → IsClocked clock scripts h → IsLeast scripts h partitions → IsStep h
    step_of h good clocked least =
        let p = least.p in
        let has : p < length scripts = has_script scripts p (length (entries_of p h)) least.timed least.next in
        let within : p < partitions = omega (arith, has, count) in
        let due : IsNextDue clock scripts h p =
        λ timed at on q other there.
        let both : Some least.timed ≡ Some timed = sym least.next ∙ at in
        let same : least.timed ≡ timed = cc in
        let inside = has_script scripts q (length (entries_of q h)) other there in
        let no_less = least.least q (omega (arith, inside, count)) other there in
        let moment = ap (λ (one : Moment × Call). one.0.0) same in
        omega (arith, no_less, moment) in
        let next : IsNext config scripts h p = record { timed = least.timed; call = least.next; entry = ap (entries_for config h p) least.next } in
        let more = slice_get_within (script_of scripts p) (length (entries_of p h)) least.timed least.next in
        record {
          p = p;
          within = within;
          good = good_next config scripts h p within good;
          clocked = clocked_next clock scripts config h p clocked due;
          fewer = subst (λ (g : History). left scripts partitions g < left scripts partitions h) (sym (one_longer config scripts h p next))
              (left_less scripts h (answered config scripts h p least.timed) more partitions within);
        }

    finish_due : (n : ℕ) (h : History) → left scripts partitions h ≤ n → IsGood config scripts h → IsClocked clock scripts h → Finishes h IsFinished
    finish_due zero h few good clocked =
        ⊎_elim
        (all_made h clocked)
        (λ (least : IsLeast scripts h partitions). absurd (let fewer = (step_of h good clocked least).fewer in omega (arith, few, fewer)))
        (least_below scripts h partitions)
    finish_due (suc n) h few good clocked =
        ⊎_elim
        (all_made h clocked)
        (λ (least : IsLeast scripts h partitions).
        let step = step_of h good clocked least in
        let fewer = step.fewer in
        let rest = finish_due n (h ++ next_entries config scripts h step.p) (omega (arith, few, fewer)) step.good step.clocked in
        record { order = step.p ∷ rest.order; is_order = first_ordered config scripts step.p rest.order step.within rest.is_order; finished = rest.finished })
        (least_below scripts h partitions)

    pub finish_all : (h : History) → IsGood config scripts h → IsClocked clock scripts h → Finishes h IsFinished
    finish_all h good clocked = finish_due (left scripts partitions h) h (omega arith) good clocked
