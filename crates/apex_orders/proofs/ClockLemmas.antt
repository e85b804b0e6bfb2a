-- Histories in which each call was due when it was made.
use Rattle.apex_orders.proofs.Common.{◌≡◌, ◌≢◌, ⊎_elim, ℕ, ◌+◌, ◌<◌, ◌≤◌, Bool, true, false, List, [], ◌∷◌, ◌++◌, length, take, Some, refl, sym, ap, ◌∙◌, subst, arith, append_assoc, append-nil, length-append, slice_get, false≢true, cases_eq, take-append-le, slice_get_within, take-append_seam, Call, Moment, Configuration, Entry, History, entries_of, ClockedNeverFalls, IsDue, IsNextDue, IsClocked, HasSameByTried}
use Rattle.apex_orders.proofs.Common.{Scripts, script_of, IsWay, next_entries, IsEnoughWith}
use Rattle.apex_orders.proofs.ChoiceLemmas.{has_script}
use Rattle.apex_orders.proofs.Enough.{enough_goes_first}
use Rattle.apex_orders.proofs.Lists.{at_seam, before_or_last}
use Rattle.apex_orders.proofs.SameWays.{next_call, next_entry, same_way, timed_of}
use Rattle.apex_orders.proofs.Walks.{IsDone, IsNext, answered, entries_of-append, next_cases, one_longer, other_entry, own_entry, same_history}

-- without the clock every call is due
pub unclocked : (scripts : Scripts) (h : History) → IsClocked false scripts h
unclocked scripts h k e at on = absurd (false≢true on)

-- each partition with a script has made as many calls in both
abbrev pub MadeAsMany : Scripts → History → History → Type 0
MadeAsMany scripts h other = (q : ℕ) → q < length scripts → length (entries_of q h) ≡ length (entries_of q other)

module _ (clock : Bool) (scripts : Scripts) where
  pub clocked_none : IsClocked clock scripts []
  clocked_none k e at = absurd (cc)

  pub clocked_push : (h : History) (e : Entry) → IsClocked clock scripts h → IsDue clock scripts h e.at → IsClocked clock scripts (h ++ e ∷ [])
  clocked_push h e clocked due k x at =
      ⊎_elim
      (λ (before : slice_get h k ≡ Some x).
      let inside = slice_get_within h k x before in
      subst (λ (g : History). IsDue clock scripts g x.at) (sym (take-append-le k h (e ∷ []) (omega (arith, inside)))) (clocked k x before))
      (λ (last : (k ≡ length h) × (e ≡ x)).
      let whole : h ≡ take k (h ++ e ∷ []) = sym (ap (λ (n : ℕ). take n (h ++ e ∷ [])) last.0 ∙ take-append_seam h (e ∷ [])) in
      subst (λ (both : History × Entry). IsDue clock scripts both.0 both.1.at) (λ i. (whole i, last.1 i)) due)
      (before_or_last h e k x at)

  pub due_here : (h : History) (e : Entry) (rest : List Entry) → IsClocked clock scripts (h ++ e ∷ rest) → IsDue clock scripts h e.at
  due_here h e rest clocked = subst (λ (g : History). IsDue clock scripts g e.at) (take-append_seam h (e ∷ rest)) (clocked (length h) e (at_seam h e rest))

  -- the next call, if it is due
  pub clocked_next : (config : Configuration) (h : History) (p : ℕ) → IsClocked clock scripts h → IsNextDue clock scripts h p → IsClocked clock scripts (h ++ next_entries config scripts h p)
  clocked_next config h p clocked due =
      ⊎_elim
      (λ (done : IsDone config scripts h p). subst (IsClocked clock scripts) (sym (same_history config scripts h p done)) clocked)
      (λ (next : IsNext config scripts h p).
      subst (IsClocked clock scripts) (sym (one_longer config scripts h p next)) (clocked_push h (answered config scripts h p next.timed) clocked (due next.timed next.call)))
      (next_cases config scripts h p)

  -- the next call of a clocked way is due
  pub next_due : (config : Configuration) (h : History) (e : Entry) (rest : List Entry) → IsWay config scripts (h ++ e ∷ rest) → IsClocked clock scripts (h ++ e ∷ rest) → IsNextDue clock scripts h e.partition
  next_due config h e rest is clocked timed at =
      let both : Some (timed_of e) ≡ Some timed = sym (next_call config scripts h e rest is) ∙ at in
      let same : timed_of e ≡ timed = cc in
      subst (λ (one : Moment × Call). IsDue clock scripts h one.0) same (due_here h e rest clocked)

  -- ---- histories with as many calls of each partition

  due_same : (h other : History) (at : Moment) → MadeAsMany scripts h other → IsDue clock scripts h at → IsDue clock scripts other at
  due_same h other at same due on q timed here =
      let within = has_script scripts q (length (entries_of q other)) timed here in
      due on q timed (ap (λ (n : ℕ). slice_get (script_of scripts q) n) (same q within) ∙ here)

  one_more_each : (h other : History) (e : Entry) → MadeAsMany scripts h other → MadeAsMany scripts (h ++ e ∷ []) (other ++ e ∷ [])
  one_more_each h other e same q within =
      let one = ap (λ (es : List Entry). length es) (entries_of-append q h (e ∷ [])) in
      let two = ap (λ (es : List Entry). length es) (entries_of-append q other (e ∷ [])) in
      let both = same q within in
      omega (arith, one, two, both, length-append (entries_of q h) (entries_of q (e ∷ [])), length-append (entries_of q other) (entries_of q (e ∷ [])))

  -- what is clocked after one is clocked after the other
  pub clocked_follow : (rest : List Entry) (h other : History) → MadeAsMany scripts h other → IsClocked clock scripts (h ++ rest) → IsClocked clock scripts other → IsClocked clock scripts (other ++ rest)
  clocked_follow [] h other same clocked clocked_too = subst (IsClocked clock scripts) (sym (append-nil other)) clocked_too
  clocked_follow (e ∷ rest) h other same clocked clocked_too =
      subst (IsClocked clock scripts) (append_assoc other (e ∷ []) rest)
      (clocked_follow rest (h ++ e ∷ []) (other ++ e ∷ []) (one_more_each h other e same)
      (subst (IsClocked clock scripts) (sym (append_assoc h (e ∷ []) rest)) clocked)
      (clocked_push other e clocked_too (due_same h other e.at same (due_here h e rest clocked))))

-- ---- one of the calls that are tried comes next

pub record GoesFirst (clock : Bool) (config : Configuration) (scripts : Scripts) (h : History) (tried : ℕ → Bool) (x : Entry) (more : List Entry) : Type 0 where
  pub first : HasSameByTried config scripts h tried x more
  pub clocked : IsClocked clock scripts (h ++ first.e ∷ first.rest)

pub goes_first : (clock : Bool) (config : Configuration) (scripts : Scripts) (h : History) (tried : ℕ → Bool) (x : Entry) (more : List Entry) → IsEnoughWith clock config scripts h tried
    → IsWay config scripts (h ++ x ∷ more) → IsClocked clock scripts (h ++ x ∷ more) → GoesFirst clock config scripts h tried x more
goes_first false config scripts h tried x more enough is clocked =
    let first = enough_goes_first config scripts h tried x more (enough.enough refl) is in
    record { first = first; clocked = unclocked scripts (h ++ first.e ∷ first.rest) }
goes_first true config scripts h tried x more enough is clocked =
    let next = next_call config scripts h x more is in
    record {
      first = record {
        e = x;
        rest = more;
        own = enough.all refl x.partition (slice_get_within (script_of scripts x.partition) (length (entries_of x.partition h)) (timed_of x) next) (next_due true scripts config h x more is clocked);
        next = next_entry config scripts h x more is;
        is_way = is;
        as_long = refl;
        same = same_way config (h ++ x ∷ more);
      };
      clocked = clocked;
    }

-- ---- the law of the clock

pub clocked_never_falls : ClockedNeverFalls
clocked_never_falls config scripts h e f rest ascending is clocked = ⊎_elim mine others (cases_eq e.partition q)
  where
    q : ℕ
    q = f.partition

    made : length (entries_of q (h ++ e ∷ [])) ≡ length (entries_of q h) + length (entries_of q (e ∷ []))
    made = let split = ap (λ (es : List Entry). length es) (entries_of-append q h (e ∷ [])) in omega (arith, split, length-append (entries_of q h) (entries_of q (e ∷ [])))

    there : slice_get (script_of scripts q) (length (entries_of q (h ++ e ∷ []))) ≡ Some (timed_of f)
    there = next_call config scripts (h ++ e ∷ []) f rest (subst (IsWay config scripts) (sym (append_assoc h (e ∷ []) (f ∷ rest))) is)

    mine : e.partition ≡ q → e.at.0 ≤ f.at.0
    mine own =
        let one = ap (λ (es : List Entry). length es) (own_entry q e own) in
        let next : length (entries_of q (h ++ e ∷ [])) ≡ length (entries_of q h) + 1 = omega (arith, made, one) in
        let here : slice_get (script_of scripts q) (length (entries_of q h)) ≡ Some (timed_of e) =
        subst (λ (p : ℕ). slice_get (script_of scripts p) (length (entries_of p h)) ≡ Some (timed_of e)) own (next_call config scripts h e (f ∷ rest) is) in
        ascending q (length (entries_of q h)) (timed_of e) (timed_of f) here (ap (λ (n : ℕ). slice_get (script_of scripts q) n) (sym next) ∙ there)

    others : e.partition ≢ q → e.at.0 ≤ f.at.0
    others apart =
        let none = ap (λ (es : List Entry). length es) (other_entry q e apart) in
        let same : length (entries_of q (h ++ e ∷ [])) ≡ length (entries_of q h) = omega (arith, made, none) in
        due_here true scripts h e (f ∷ rest) clocked refl q (timed_of f) (ap (λ (n : ℕ). slice_get (script_of scripts q) n) (sym same) ∙ there)
