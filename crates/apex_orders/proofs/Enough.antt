-- It is enough to try the next calls of some partitions.
use Rattle.apex_orders.proofs.Common.{◌≡◌, ◌≢◌, ◌⊎◌, inl, inr, ⊎_elim, ℕ, zero, suc, ◌<◌, ◌≤◌, Bool, true, false, List, [], ◌∷◌, ◌++◌, length, map, take, Some, refl, sym, ap, ◌∙◌, subst, arith, append_assoc, append-nil, length-append, slice_get, slice_get_within, take-append_seam, Call, Moment, Configuration, Entry, History, entries_of, leaves_others, Scripts, script_of, calls_of, IsBeginning, IsWay, Commutes}
use Rattle.apex_orders.proofs.Common.{IsRefusedEarly, IsApartFromRest, HasNext, IsEnough, IsSameWay, AreAmongTried, TryingEnoughIsEnough, EnoughGoesFirst}
use Rattle.apex_orders.proofs.GoingOn.{lawful_here}
use Rattle.apex_orders.proofs.Walks.{entries_of-append, calls_of-append, calls_count, other_entry}
use Rattle.apex_orders.proofs.Early.{still_early, early_may}
use Rattle.apex_orders.proofs.SameWays.{same_way, way_along, way_same, next_call, next_entry, timed_of}
use Rattle.apex_orders.proofs.Swapping.{MaySwap, apart_back, apart_may, commutes, lawful_start}

within : {X : Type 0} (xs : List X) (k : ℕ) (x : X) → slice_get xs k ≡ Some x → k < length xs
within xs k x at = slice_get_within xs k x at

-- ---- the first entry that is tried

module _ (tried : ℕ → Bool) where
  abbrev AreUntried : List Entry → Type 0
  AreUntried [] = Unit {0}
  AreUntried (x ∷ rest) = (tried x.partition ≡ false) × AreUntried rest

  record IsSplit (rest : List Entry) : Type 0 where
    before : List Entry
    e : Entry
    after : List Entry
    whole : rest ≡ before ++ e ∷ after
    own : tried e.partition ≡ true
    none : AreUntried before

  first_tried : (rest : List Entry) → IsSplit rest ⊎ AreUntried rest
  first_tried [] = inr tt
  first_tried (x ∷ rest) = by_test (tried x.partition) refl (first_tried rest)
    where
      by_test : (b : Bool) → tried x.partition ≡ b → IsSplit rest ⊎ AreUntried rest → IsSplit (x ∷ rest) ⊎ AreUntried (x ∷ rest)
      by_test true own further = inl (record { before = []; e = x; after = rest; whole = refl; own = own; none = tt })
      by_test false other further =
          ⊎_elim
          (λ (split : IsSplit rest). inl (record {
            before = x ∷ split.before;
            e = split.e;
            after = split.after;
            whole = ap (λ (es : List Entry). x ∷ es) split.whole;
            own = split.own;
            none = (other, split.none);
          }))
          (λ (none : AreUntried rest). inr (other, none))
          further

  not_same : (p q : ℕ) → tried p ≡ true → tried q ≡ false → q ≢ p
  not_same p q own other same = absurd (let both : tried q ≡ tried p = ap tried same in cc)

  none_of : (p : ℕ) (rest : List Entry) → tried p ≡ true → AreUntried rest → entries_of p rest ≡ []
  none_of p [] own none = refl
  none_of p (x ∷ rest) own none =
      entries_of-append p (x ∷ []) rest
      ∙ (ap (λ (es : List Entry). es ++ entries_of p rest) (other_entry p x (not_same p x.partition own none.0)) ∙ none_of p rest own none.1)

  module _ (config : Configuration) (scripts : Scripts) where
    -- no call still to come disturbs this one
    abbrev IsSafe : History → ℕ → Moment × Call → Type 0
    IsSafe h p timed = IsRefusedEarly config h p timed ⊎ IsApartFromRest config scripts h tried p timed.1

    stays_apart : (h : History) (x : Entry) (p : ℕ) (asked : Call) → IsApartFromRest config scripts h tried p asked → IsApartFromRest config scripts (h ++ x ∷ []) tried p asked
    stays_apart h x p asked apart q k timed other past at =
        let longer = ap (λ (es : List Entry). length es) (entries_of-append q h (x ∷ [])) in
        apart q k timed other (omega (arith, past, longer, length-append (entries_of q h) (entries_of q (x ∷ [])))) at

    stays_safe : (h : History) (x : Entry) (p : ℕ) (timed : Moment × Call) → x.partition ≢ p → IsSafe h p timed → IsSafe (h ++ x ∷ []) p timed
    stays_safe h x p timed other =
        ⊎_elim
        (λ (early : IsRefusedEarly config h p timed). inl (still_early config h x p (leaves_others x.partition x.at x.call x.reply p (λ same. other (sym same))) timed early))
        (λ (apart : IsApartFromRest config scripts h tried p timed.1). inr (stays_apart h x p timed.1 apart))

    record IsMoved (h : History) (e : Entry) (before after : List Entry) : Type 0 where
      is_way : IsWay config scripts (h ++ e ∷ (before ++ after))
      same : IsSameWay config (h ++ (before ++ e ∷ after)) (h ++ e ∷ (before ++ after))

    move_first : (before : List Entry) (h : History) (e : Entry) (after : List Entry) → IsWay config scripts (h ++ (before ++ e ∷ after)) → tried e.partition ≡ true
        → IsSafe h e.partition (e.at, e.call) → AreUntried before → IsMoved h e before after
    move_first [] h e after is own safe none = record { is_way = is; same = same_way config (h ++ e ∷ after) }
    move_first (x ∷ before) h e after is own safe none =
        let rest = before ++ after in
        let other : x.partition ≢ e.partition = not_same e.partition x.partition own none.0 in
        let moved = move_first before (h ++ x ∷ []) e after (subst (IsWay config scripts) (sym (append_assoc h (x ∷ []) (before ++ e ∷ after))) is)
        own (stays_safe h x e.partition (e.at, e.call) other safe) none.1 in
        let between : IsWay config scripts (h ++ x ∷ e ∷ rest) = subst (IsWay config scripts) (append_assoc h (x ∷ []) (e ∷ rest)) moved.is_way in
        let until : IsSameWay config (h ++ x ∷ (before ++ e ∷ after)) (h ++ x ∷ e ∷ rest) =
        subst (λ (both : History × History). IsSameWay config both.0 both.1) (λ i. (append_assoc h (x ∷ []) (before ++ e ∷ after) i, append_assoc h (x ∷ []) (e ∷ rest) i)) moved.same in
        let may : MaySwap config h x e other =
        ⊎_elim
        (λ (early : IsRefusedEarly config h e.partition (e.at, e.call)). early_may config h x e other (lawful_here config (h ++ x ∷ []) e rest moved.is_way.lawful).1 early)
        (λ (apart : IsApartFromRest config scripts h tried e.partition e.call).
        apart_may config h x e other (apart_back config e.partition x.partition e.call x.call
        (apart x.partition (length (entries_of x.partition h)) (timed_of x) none.0 (omega arith) (next_call config scripts h x (before ++ e ∷ after) is))))
        safe in
        let swapped : Commutes config h x e rest = commutes config h x e other may rest between.lawful in
        record {
          is_way = way_same config scripts (h ++ x ∷ e ∷ rest) (h ++ e ∷ x ∷ rest) between swapped.lawful swapped.entries;
          same = way_along config (h ++ x ∷ (before ++ e ∷ after)) (h ++ x ∷ e ∷ rest) (h ++ e ∷ x ∷ rest) until (record { entries = swapped.entries; point = swapped.point });
        }

    -- ---- one of the calls that are tried comes next

    record IsFirst (h way : History) (count : ℕ) : Type 0 where
      e : Entry
      own : tried e.partition ≡ true
      rest : List Entry
      is_way : IsWay config scripts (h ++ e ∷ rest)
      same : IsSameWay config way (h ++ e ∷ rest)
      fewer : suc (length rest) ≡ count

    goes_first : (h : History) (x : Entry) (more : List Entry) → IsEnough config scripts h tried → IsWay config scripts (h ++ x ∷ more) → IsFirst h (h ++ x ∷ more) (length (x ∷ more))
    goes_first h x more enough is = ⊎_elim found missing (first_tried (x ∷ more))
      where
        found : IsSplit (x ∷ more) → IsFirst h (h ++ x ∷ more) (length (x ∷ more))
        found split =
            let e = split.e in
            let before = split.before in
            let after = split.after in
            let none : entries_of e.partition before ≡ [] = none_of e.partition before split.own split.none in
            let whole : h ++ x ∷ more ≡ h ++ (before ++ e ∷ after) = ap (λ (es : List Entry). h ++ es) split.whole in
            let is_split : IsWay config scripts (h ++ (before ++ e ∷ after)) = subst (IsWay config scripts) whole is in
            let at : slice_get (script_of scripts e.partition) (length (entries_of e.partition (h ++ before))) ≡ Some (timed_of e) =
            next_call config scripts (h ++ before) e after (subst (IsWay config scripts) (sym (append_assoc h before (e ∷ after))) is_split) in
            let same_count : entries_of e.partition (h ++ before) ≡ entries_of e.partition h =
            entries_of-append e.partition h before ∙ (ap (λ (es : List Entry). entries_of e.partition h ++ es) none ∙ append-nil (entries_of e.partition h)) in
            let here : slice_get (script_of scripts e.partition) (length (entries_of e.partition h)) ≡ Some (timed_of e) =
            ap (λ (es : List Entry). slice_get (script_of scripts e.partition) (length es)) (sym same_count) ∙ at in
            let moved = move_first before h e after is_split split.own (enough.local e.partition (timed_of e) split.own here) split.none in
            record {
              e = e;
              own = split.own;
              rest = before ++ after;
              is_way = moved.is_way;
              same = subst (λ (way : History). IsSameWay config way (h ++ e ∷ (before ++ after))) (sym whole) moved.same;
              fewer = let all = ap (λ (es : List Entry). length es) split.whole in omega (arith, all, length-append before (e ∷ after), length-append before after);
            }

        missing : AreUntried (x ∷ more) → IsFirst h (h ++ x ∷ more) (length (x ∷ more))
        missing none =
            let has : HasNext scripts h x.partition = within (script_of scripts x.partition) (length (entries_of x.partition h)) (timed_of x) (next_call config scripts h x more is) in
            let one = enough.some x.partition has in
            let p = one.0 in
            let few : script_of scripts p ≡ calls_of p h =
            sym (is.calls p) ∙ (calls_of-append p h (x ∷ more) ∙ (ap (λ (es : List Entry). calls_of p h ++ map timed_of es) (none_of p (x ∷ more) one.1 none) ∙ append-nil (calls_of p h))) in
            let count = calls_count p h in
            let same = ap (λ (calls : List (Moment × Call)). length calls) few in
            let next : length (entries_of p h) < length (script_of scripts p) = one.2 in
            absurd (omega (arith, count, same, next))

-- ---- a whole search

-- every prefix of a way is a beginning
pub begins : (config : Configuration) (scripts : Scripts) (h rest : History) → IsWay config scripts (h ++ rest) → IsBeginning config scripts h
begins config scripts h rest is = record {
  lawful = lawful_start config h rest is.lawful;
  calls = λ p.
      let split : calls_of p h ++ calls_of p rest ≡ script_of scripts p = sym (calls_of-append p h rest) ∙ is.calls p in
      sym (ap (take (length (calls_of p h))) (sym split) ∙ take-append_seam (calls_of p h) (calls_of p rest));
}

module _ (config : Configuration) (scripts : Scripts) (choice : History → ℕ → Bool) (enough : (h : History) → IsBeginning config scripts h → IsEnough config scripts h (choice h)) where
  record IsFound (h way : History) : Type 0 where
    rest : List Entry
    is_way : IsWay config scripts (h ++ rest)
    tried : AreAmongTried choice h rest
    same : IsSameWay config way (h ++ rest)

  find : (n : ℕ) (h : History) (rest : List Entry) → length rest ≤ n → IsWay config scripts (h ++ rest) → IsFound h (h ++ rest)
  find n h [] few is = record { rest = []; is_way = is; tried = tt; same = same_way config (h ++ []) }
  find zero h (x ∷ rest) few is = absurd (omega arith)
  find (suc n) h (x ∷ rest) few is =
      let first = goes_first (choice h) config scripts h x rest (enough h (begins config scripts h (x ∷ rest) is)) is in
      let e = first.e in
      let fewer = first.fewer in
      let regroup = append_assoc h (e ∷ []) first.rest in
      let found = find n (h ++ e ∷ []) first.rest (omega (arith, few, fewer)) (subst (IsWay config scripts) (sym regroup) first.is_way) in
      let whole = append_assoc h (e ∷ []) found.rest in
      let same : IsSameWay config (h ++ e ∷ first.rest) (h ++ e ∷ found.rest) =
      subst (λ (both : History × History). IsSameWay config both.0 both.1) (λ i. (regroup i, whole i)) found.same in
      record {
        rest = e ∷ found.rest;
        is_way = subst (IsWay config scripts) whole found.is_way;
        tried = (first.own, found.tried);
        same = way_along config (h ++ x ∷ rest) (h ++ e ∷ first.rest) (h ++ e ∷ found.rest) first.same same;
      }

pub trying_enough_is_enough : TryingEnoughIsEnough
trying_enough_is_enough config scripts choice way enough is =
    let found = find config scripts choice enough (length way) [] way (omega arith) is in
    record { other = found.rest; is_way = found.is_way; tried = found.tried; same = found.same }

pub enough_goes_first : EnoughGoesFirst
enough_goes_first config scripts h tried x more enough is =
    let first = goes_first tried config scripts h x more enough is in
    record {
      e = first.e;
      rest = first.rest;
      own = first.own;
      next = next_entry config scripts h first.e first.rest first.is_way;
      is_way = first.is_way;
      as_long = (let fewer = first.fewer in omega (arith, fewer));
      same = first.same;
    }
