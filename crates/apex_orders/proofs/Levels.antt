-- Points are found in levels: those after the same number of calls.
use Rattle.apex_orders.proofs.Common.{◌≡◌, ⊎_elim, ℕ, zero, suc, ◌+◌, ◌^◌, ◌-◌, ◌<◌, ◌≤◌, ◌≢◌, List, [], ◌∷◌, ◌++◌, length, Some, refl, sym, ap, ◌∙◌, subst, arith, slice_get, slice_get_within, cases_eq, cases_lt, Configuration, Entry, History, PossibleReply, entries_of, count_of, Scripts, script_of, history_of, next_entries, IsSamePoint, calls_made, made_below, Knows, KnowsFrom, AreLevels, Makes, HasMade, Worker, IsLaterWorker}
use Rattle.apex_orders.proofs.Finishing.{one_made, same_made}
use Rattle.apex_orders.proofs.Lists.{before_or_last}
use Rattle.apex_orders.proofs.Walks.{IsDone, IsNext, answered, next_cases, one_longer}
use Rattle.apex_orders.proofs.WorkerLemmas.{same_given}

-- ---- the number of calls

none_below : (n : ℕ) → made_below n [] ≡ 0
none_below zero = refl
none_below (suc n) = let rest = none_below n in omega (arith, rest)

pub none_made : (config : Configuration) → calls_made config [] ≡ 0
none_made config = none_below (length config.partitions)

same_below : (h other : History) (n : ℕ) → ((p : ℕ) → p < n → count_of (entries_of p h) ≡ count_of (entries_of p other)) → made_below n h ≡ made_below n other
same_below h other zero each = refl
same_below h other (suc n) each =
    let rest = same_below h other n (λ p below. each p (omega (arith, below))) in
    let last = each n (omega arith) in
    omega (arith, rest, last)

pub as_many : (config : Configuration) (h other : History) → IsSamePoint config h other → calls_made config h ≡ calls_made config other
as_many config h other same = same_below h other (length config.partitions) same.calls

module _ (scripts : Scripts) (h : History) (e : Entry) (more : length (entries_of e.partition h) < length (script_of scripts e.partition)) (short : length (script_of scripts e.partition) ≤ 2 ^ 64 - 1) where
  made_before : (n : ℕ) → n ≤ e.partition → made_below n (h ++ e ∷ []) ≡ made_below n h
  made_before zero below = refl
  made_before (suc n) below =
      let rest = made_before n (omega (arith, below)) in
      let same = same_made scripts h e more n (λ is. absurd (omega (arith, below, is))) in
      omega (arith, rest, same)

  made_behind : (n : ℕ) → e.partition < n → made_below n (h ++ e ∷ []) ≡ suc (made_below n h)
  made_behind zero below = absurd (omega (arith, below))
  made_behind (suc n) below =
      ⊎_elim
      (λ (own : e.partition ≡ n).
      let rest = made_before n (omega (arith, own)) in
      let one = subst (λ (q : ℕ). length (entries_of q (h ++ e ∷ [])) ≡ suc (length (entries_of q h))) own (one_made scripts h e more) in
      let few = subst (λ (q : ℕ). length (entries_of q h) < length (script_of scripts q)) own more in
      let limit = subst (λ (q : ℕ). length (script_of scripts q) ≤ 2 ^ 64 - 1) own short in
      omega (arith, rest, one, few, limit))
      (λ (apart : e.partition ≢ n).
      let rest = made_behind n (omega (arith, below, apart)) in
      let same = same_made scripts h e more n apart in
      omega (arith, rest, same))
      (cases_eq e.partition n)

module _ (config : Configuration) (scripts : Scripts) where
  -- a call that is made is one more
  pub one_more_made : (h : History) (p : ℕ) (one : PossibleReply) → p < length config.partitions → length (script_of scripts p) ≤ 2 ^ 64 - 1 → Makes config scripts h p one
      → calls_made config (h ++ next_entries config scripts h p) ≡ suc (calls_made config h)
  one_more_made h p one within short makes =
      ⊎_elim
      (λ (done : IsDone config scripts h p). absurd (let both = sym done.entry ∙ makes.entry in cc))
      (λ (next : IsNext config scripts h p).
      subst (λ (g : History). calls_made config g ≡ suc (calls_made config h)) (sym (one_longer config scripts h p next))
      (made_behind scripts h (answered config scripts h p next.timed) (slice_get_within (script_of scripts p) (length (entries_of p h)) next.timed next.call) short (length config.partitions) within))
      (next_cases config scripts h p)

  -- ---- levels

  -- what is known after one more call is known from the next level on
  pub known_from_next : (orders : List (List ℕ)) (first next calls : ℕ) (h : History) → AreLevels config scripts orders first next calls → calls_made config h ≡ suc calls
      → Knows config scripts orders h → KnowsFrom config scripts orders next h
  known_from_next orders first next calls h levels made known =
      let index = known.here.0 in
      let same = as_many config h (history_of config scripts known.order) known.same in
      ⊎_elim
      (λ (before : index < next). absurd (let few = levels.before index known.order before known.here.1 in omega (arith, few, made, same)))
      (λ (past : next ≤ index). record { index = index; past = past; order = known.order; here = known.here.1; same = known.same })
      (cases_lt index next)

  pub knows_of : (orders : List (List ℕ)) (from : ℕ) (h : History) → KnowsFrom config scripts orders from h → Knows config scripts orders h
  knows_of orders from h known = record { order = known.order; here = (known.index, known.here); same = known.same }

  -- only the order without calls
  pub first_levels : AreLevels config scripts ([] ∷ []) 0 1 0
  first_levels = record {
    few = omega arith;
    before = λ k order below at. let is = first k order at in omega (arith, is);
    here = λ k order past below at. first k order at;
    after = λ k order past at. absurd (let within = slice_get_within ([] ∷ []) k order at in omega (arith, past, within));
  }
    where
      first : (k : ℕ) (order : List ℕ) → slice_get ([] ∷ []) k ≡ Some order → calls_made config (history_of config scripts order) ≡ 0
      first zero order at = let same : [] ≡ order = cc in subst (λ (o : List ℕ). calls_made config (history_of config scripts o) ≡ 0) same (none_made config)
      first (suc k) order at = absurd (cc)

  module _ (orders : List (List ℕ)) (first next calls : ℕ) (levels : AreLevels config scripts orders first next calls) where
    -- with an order of the next level
    pub levels_push : (order : List ℕ) → next ≤ length orders → calls_made config (history_of config scripts order) ≡ suc calls → AreLevels config scripts (orders ++ order ∷ []) first next calls
    levels_push order all made = record {
      few = levels.few;
      before = λ k other below at.
          ⊎_elim
          (λ (was : slice_get orders k ≡ Some other). levels.before k other below was)
          (λ (last : (k ≡ length orders) × (order ≡ other)). absurd (omega (arith, below, all, last.0)))
          (before_or_last orders order k other at);
      here = λ k other past below at.
          ⊎_elim
          (λ (was : slice_get orders k ≡ Some other). levels.here k other past below was)
          (λ (last : (k ≡ length orders) × (order ≡ other)). absurd (omega (arith, below, all, last.0)))
          (before_or_last orders order k other at);
      after = λ k other past at.
          ⊎_elim
          (λ (was : slice_get orders k ≡ Some other). levels.after k other past was)
          (λ (last : (k ≡ length orders) × (order ≡ other)). subst (λ (o : List ℕ). calls_made config (history_of config scripts o) ≡ suc calls) last.1 made)
          (before_or_last orders order k other at);
    }

    -- after some were given out
    pub levels_left : (count : ℕ) → AreLevels config scripts orders (first + count) next calls
    levels_left count = record {
      few = levels.few;
      before = levels.before;
      here = λ k order past below at. levels.here k order (omega (arith, past)) below at;
      after = levels.after;
    }

    -- once all were given out
    pub levels_next : next ≤ first → next < length orders → AreLevels config scripts orders first (length orders) (suc calls)
    levels_next all some =
        let few = levels.few in
        record {
          few = omega (arith, few, some);
          before = λ k order below at.
              ⊎_elim
              (λ (before : k < next). let is = levels.before k order before at in omega (arith, is))
              (λ (past : next ≤ k). let is = levels.after k order past at in omega (arith, is))
              (cases_lt k next);
          here = λ k order past below at. levels.after k order (omega (arith, past, all)) at;
          after = λ k order past at. absurd (let within = slice_get_within orders k order at in omega (arith, past, within));
        }

  -- ---- a worker's points

  pub still_made : (calls : ℕ) (old new : Worker) → IsLaterWorker old new → HasMade config scripts calls old → HasMade config scripts calls new
  still_made calls old new later made j within =
      let count = ap (λ points. length points) later.given in
      subst (λ (order : List ℕ). calls_made config (history_of config scripts order) ≡ calls) (sym (same_given config scripts old new j later)) (made j (omega (arith, within, count)))
