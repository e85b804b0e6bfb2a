-- The histories that orders lead to are beginnings, and each beginning is the history of its order.
use Rattle.apex_orders.proofs.Common.{◌≡◌, ◌≢◌, ◌⊎◌, inl, inr, ⊎_elim, ℕ, zero, suc, if◌then◌else◌, ◌<◌, ◌==◌, true, false, List, [], ◌∷◌, ◌++◌, length, take, map, Option, Some, None, refl, sym, ap, ◌∙◌, subst, arith, append-nil, length-append, slice_get, cases_eq, nat_tests, length-map, map-append, Call, Moment, Reply, Configuration, Entry, History, entry_of, entries_of, IsLawful, reply_to, IsSound}
use Rattle.apex_orders.proofs.Common.{sound-push, Scripts, script_of, calls_of, replies_of, IsBeginning, order_of, IsOrder, entries_for, next_entries, continued}
use Rattle.std.proofs.lemmas.List.Elements.{filter-append}
use Rattle.apex_orders.proofs.Lists.{take_one_more}

-- ---- what one partition did

pub own_entry : (p : ℕ) (e : Entry) → e.partition ≡ p → entries_of p (e ∷ []) ≡ e ∷ []
own_entry p e own = let same : (e.partition == p) ≡ true = grind (arith, nat_tests) in λ i. if same i then e ∷ [] else []

pub other_entry : (p : ℕ) (e : Entry) → e.partition ≢ p → entries_of p (e ∷ []) ≡ []
other_entry p e other = let apart : (e.partition == p) ≡ false = grind (arith, nat_tests) in λ i. if apart i then e ∷ [] else []

abbrev timed_of : Entry → Moment × Call
timed_of entry = (entry.at, entry.call)

abbrev reply_in : Entry → Reply
reply_in entry = entry.reply

pub entries_of-append : (p : ℕ) (h more : History) → entries_of p (h ++ more) ≡ entries_of p h ++ entries_of p more
entries_of-append p h more = filter-append (λ (entry : Entry). entry.partition == p) h more

pub calls_of-append : (p : ℕ) (h more : History) → calls_of p (h ++ more) ≡ calls_of p h ++ calls_of p more
calls_of-append p h more = ap (map timed_of) (entries_of-append p h more) ∙ map-append timed_of (entries_of p h) (entries_of p more)

pub replies_of-append : (p : ℕ) (h more : History) → replies_of p (h ++ more) ≡ replies_of p h ++ replies_of p more
replies_of-append p h more = ap (map reply_in) (entries_of-append p h more) ∙ map-append reply_in (entries_of p h) (entries_of p more)

pub calls_count : (p : ℕ) (h : History) → length (calls_of p h) ≡ length (entries_of p h)
calls_count p h = length-map (entries_of p h) timed_of

pub replies_count : (p : ℕ) (h : History) → length (replies_of p h) ≡ length (entries_of p h)
replies_count p h = length-map (entries_of p h) reply_in

-- ---- one more call

-- the calls are a prefix of the partition's script
abbrev Begins : Scripts → ℕ → List (Moment × Call) → Type 0
Begins scripts p calls = calls ≡ take (length calls) (script_of scripts p)

-- the history is sound and a beginning
pub record IsGood (config : Configuration) (scripts : Scripts) (h : History) : Type 0 where
  pub sound : IsSound config h
  pub calls : (p : ℕ) → calls_of p h ≡ take (length (calls_of p h)) (script_of scripts p)

pub is_beginning : (config : Configuration) (scripts : Scripts) (h : History) → IsGood config scripts h → IsBeginning config scripts h
is_beginning config scripts h good = record { lawful = good.sound.lawful; calls = good.calls }

module _ (config : Configuration) (scripts : Scripts) where
  -- the entry of a call at a moment
  abbrev pub answered : History → ℕ → Moment × Call → Entry
  answered h p timed = entry_of p timed.0 timed.1 (reply_to config h p timed.0 timed.1)

  -- the partition has made all its calls, or makes the next one
  pub record IsNext (h : History) (p : ℕ) : Type 0 where
    pub timed : Moment × Call
    pub call : slice_get (script_of scripts p) (length (entries_of p h)) ≡ Some timed
    pub entry : next_entries config scripts h p ≡ answered h p timed ∷ []

  pub record IsDone (h : History) (p : ℕ) : Type 0 where
    pub call : slice_get (script_of scripts p) (length (entries_of p h)) ≡ None
    pub entry : next_entries config scripts h p ≡ []

  pub next_cases : (h : History) (p : ℕ) → IsDone h p ⊎ IsNext h p
  next_cases h p = of_call (slice_get (script_of scripts p) (length (entries_of p h))) refl
    where
      of_call : (o : Option (Moment × Call)) → slice_get (script_of scripts p) (length (entries_of p h)) ≡ o → IsDone h p ⊎ IsNext h p
      of_call None is = inl (record { call = is; entry = ap (entries_for config h p) is })
      of_call (Some timed) is = inr (record { timed = timed; call = is; entry = ap (entries_for config h p) is })

  pub same_history : (h : History) (p : ℕ) → IsDone h p → h ++ next_entries config scripts h p ≡ h
  same_history h p done = ap (λ (es : History). h ++ es) done.entry ∙ append-nil h

  pub one_longer : (h : History) (p : ℕ) (next : IsNext h p) → h ++ next_entries config scripts h p ≡ h ++ answered h p next.timed ∷ []
  one_longer h p next = ap (λ (es : History). h ++ es) next.entry

  calls_more : (h : History) (p : ℕ) (next : IsNext h p) → IsGood config scripts h → (q : ℕ)
      → calls_of q (h ++ answered h p next.timed ∷ []) ≡ take (length (calls_of q (h ++ answered h p next.timed ∷ []))) (script_of scripts q)
  calls_more h p next good q = ⊎_elim mine others (cases_eq p q)
    where
      e : Entry
      e = answered h p next.timed

      mine : p ≡ q → Begins scripts q (calls_of q (h ++ e ∷ []))
      mine own =
          let longer : calls_of q (h ++ e ∷ []) ≡ calls_of q h ++ next.timed ∷ [] =
          calls_of-append q h (e ∷ []) ∙ ap (λ (es : History). calls_of q h ++ map timed_of es) (own_entry q e own) in
          let here : slice_get (script_of scripts q) (length (calls_of q h)) ≡ Some next.timed =
          ap (λ (n : ℕ). slice_get (script_of scripts q) n) (calls_count q h) ∙ subst (λ (n : ℕ). slice_get (script_of scripts n) (length (entries_of n h)) ≡ Some next.timed) own next.call in
          let count : length (calls_of q h ++ next.timed ∷ []) ≡ suc (length (calls_of q h)) = omega (arith, length-append (calls_of q h) (next.timed ∷ [])) in
          let begins : calls_of q h ++ next.timed ∷ [] ≡ take (length (calls_of q h ++ next.timed ∷ [])) (script_of scripts q) =
          ap (λ (calls : List (Moment × Call)). calls ++ next.timed ∷ []) (good.calls q)
          ∙ (sym (take_one_more (script_of scripts q) (length (calls_of q h)) next.timed here) ∙ ap (λ (n : ℕ). take n (script_of scripts q)) (sym count)) in
          subst (Begins scripts q) (sym longer) begins

      others : (p ≡ q → ⊥) → Begins scripts q (calls_of q (h ++ e ∷ []))
      others apart =
          let same : calls_of q (h ++ e ∷ []) ≡ calls_of q h =
          calls_of-append q h (e ∷ []) ∙ (ap (λ (es : History). calls_of q h ++ map timed_of es) (other_entry q e apart) ∙ append-nil (calls_of q h)) in
          subst (Begins scripts q) (sym same) (good.calls q)

  pub good_next : (h : History) (p : ℕ) → p < length config.partitions → IsGood config scripts h → IsGood config scripts (h ++ next_entries config scripts h p)
  good_next h p within good =
      ⊎_elim
      (λ (done : IsDone h p). subst (IsGood config scripts) (sym (same_history h p done)) good)
      (λ (next : IsNext h p). subst (IsGood config scripts) (sym (one_longer h p next)) (record {
        sound = sound-push config h p next.timed.0 next.timed.1 (reply_to config h p next.timed.0 next.timed.1) good.sound within refl;
        calls = calls_more h p next good;
      }))
      (next_cases h p)

  -- ---- orders

  pub first_of : (p : ℕ) (order : List ℕ) → IsOrder config (p ∷ order) → p < length config.partitions
  first_of p order valid = valid 0 p refl

  pub rest_of : (p : ℕ) (order : List ℕ) → IsOrder config (p ∷ order) → IsOrder config order
  rest_of p order valid k q at = valid (suc k) q at

  pub none_ordered : IsOrder config []
  none_ordered k p at = absurd (cc)

  pub first_ordered : (p : ℕ) (order : List ℕ) → p < length config.partitions → IsOrder config order → IsOrder config (p ∷ order)
  first_ordered p order within valid zero q at = let same : p ≡ q = cc in subst (λ (n : ℕ). n < length config.partitions) same within
  first_ordered p order within valid (suc k) q at = valid k q at

  pub joined : (order more : List ℕ) → IsOrder config order → IsOrder config more → IsOrder config (order ++ more)
  joined [] more valid valid_too = valid_too
  joined (p ∷ order) more valid valid_too = first_ordered p (order ++ more) (first_of p order valid) (joined order more (rest_of p order valid) valid_too)

  pub one_ordered : (p : ℕ) → p < length config.partitions → IsOrder config (p ∷ [])
  one_ordered p within = first_ordered p [] within none_ordered

  pub good_walk : (h : History) (order : List ℕ) → IsGood config scripts h → IsOrder config order → IsGood config scripts (continued config scripts h order)
  good_walk h [] good valid = good
  good_walk h (p ∷ order) good valid = good_walk (h ++ next_entries config scripts h p) order (good_next h p (first_of p order valid) good) (rest_of p order valid)

  pub continued-append : (h : History) (order more : List ℕ) → continued config scripts h (order ++ more) ≡ continued config scripts (continued config scripts h order) more
  continued-append h [] more = refl
  continued-append h (p ∷ order) more = continued-append (h ++ next_entries config scripts h p) order more

  -- ---- beginnings

  pub ordered : (h : History) → IsLawful config h → IsOrder config (order_of h)
  ordered h lawful k p at = of_entry h k at (λ j e is. (lawful j e is).0)
    where
      of_entry : (g : History) (k : ℕ) → slice_get (order_of g) k ≡ Some p → ((j : ℕ) (e : Entry) → slice_get g j ≡ Some e → e.partition < length config.partitions) → p < length config.partitions
      of_entry [] k at each = absurd (cc)
      of_entry (e ∷ g) zero at each = let same : e.partition ≡ p = cc in subst (λ (n : ℕ). n < length config.partitions) same (each 0 e refl)
      of_entry (e ∷ g) (suc k) at each = of_entry g k at (λ j x is. each (suc j) x is)
