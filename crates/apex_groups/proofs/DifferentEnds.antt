-- Of the ends with the same counts on all channels one is kept.
use Rattle.apex_groups.proofs.Common.{◌≡◌, ◌<◌, ◌≤◌, ◌+◌, ⊎_elim, ℕ, zero, suc, Bool, true, false, List, [], ◌∷◌, ◌++◌, length, drop, take, refl, sym, ap, ◌∙◌, subst, arith, length-append, Configuration, History, Scripts, history_of, Has, AreEndsWith, HasSameTotals, HasSuchTotals, KeepTotals, ShowAllCounts, totals_below}
use Rattle.std.proofs.Math.Seq.{drop-append_seam, take-append_seam}
use Rattle.std.proofs.lemmas.Bool.{cases_Bool, cases_lt, false≢true}
use Rattle.std.proofs.lemmas.Map.Lookups.{exact_bytes}
use Rattle.std.specs.BTreeMap.{is_at}
use Rattle.std.specs.BTreeSet.{BTreeSet, Updates, contains}
use Rattle.std.specs.Cmp.Lexicographic.{slice_cmp}
use Rattle.std.proofs.Common.{Ordering, Less, Equal, Greater}
use Rattle.std.specs.Ordering.{is_eq, nat_cmp}
use Rattle.std.specs.List.{list_any}
use Rattle.std.specs.Prelude.{Vec, get_or}
use Rattle.apex_groups.specs.Prelude.{accepted_on, received_on, cleared_on, waiting_on, count_of}
use Rattle.apex_orders.proofs.Having.{first_or_rest, has_before, has_behind, has_either, has_none}
use Rattle.apex_groups.proofs.PartWays.{totals_along, totals_at}

equal_of : (o : Ordering) → is_eq o ≡ true → o ≡ Equal
equal_of Less is = absurd (cc)
equal_of Equal is = refl
equal_of Greater is = absurd (cc)

module _ (config : Configuration) (scripts : Scripts) where
  -- the ends that are kept show all counts
  pub kept_show : (clock : Bool) (ends kept : List (List ℕ)) → AreEndsWith clock config scripts ends → KeepTotals config scripts ends kept → ShowAllCounts clock config scripts kept
  kept_show clock ends kept are keep = record {
    ways = λ order has. are.ways order (keep.each order has);
    clocked = λ order has. are.clocked order (keep.each order has);
    counts = λ way is_way clocked c within.
        let one = are.all way is_way clocked in
        let other = keep.every one.order one.here in
        record {
          order = other.order;
          here = other.here;
          same = totals_along config c way (history_of config scripts one.order) (history_of config scripts other.order) (totals_at config c way (history_of config scripts one.order) within one.same) (other.same c within);
        };
  }

  only : (x y : List ℕ) → Has (x ∷ []) y → x ≡ y
  only x y has = ⊎_elim (λ (first : x ≡ y). first) (λ (rest : Has [] y). absurd (has_none y rest)) (first_or_rest x [] y has)

  -- no ends
  pub keep_none : KeepTotals config scripts [] []
  keep_none = record {
    each = λ order has. has;
    every = λ order has. absurd (has_none order has);
  }

  more_such : (kept more : List (List ℕ)) (history : History) → HasSuchTotals config scripts kept history → HasSuchTotals config scripts (kept ++ more) history
  more_such kept more history such = record { order = such.order; here = has_before kept more such.order such.here; same = such.same }

  -- one more end, which is kept
  pub keep_one : (ends kept : List (List ℕ)) (end : List ℕ) → KeepTotals config scripts ends kept → KeepTotals config scripts (ends ++ end ∷ []) (kept ++ end ∷ [])
  keep_one ends kept end keep = record {
    each = λ order has. ⊎_elim
        (λ (earlier : Has kept order). has_before ends (end ∷ []) order (keep.each order earlier))
        (λ (last : Has (end ∷ []) order). has_behind ends (end ∷ []) order last)
        (has_either kept (end ∷ []) order has);
    every = λ order has. ⊎_elim
        (λ (earlier : Has ends order). more_such kept (end ∷ []) (history_of config scripts order) (keep.every order earlier))
        (λ (last : Has (end ∷ []) order). record {
          order = order;
          here = has_behind kept (end ∷ []) order last;
          same = λ c within. record { counts = record { accepted = refl; received = refl; cleared = refl }; waiting = refl };
        })
        (has_either ends (end ∷ []) order has);
  }

  -- one more end, whose totals an end that was kept has
  pub keep_none_more : (ends kept : List (List ℕ)) (end : List ℕ) → HasSuchTotals config scripts kept (history_of config scripts end) → KeepTotals config scripts ends kept → KeepTotals config scripts (ends ++ end ∷ []) kept
  keep_none_more ends kept end such keep = record {
    each = λ order has. has_before ends (end ∷ []) order (keep.each order has);
    every = λ order has. ⊎_elim
        (λ (earlier : Has ends order). keep.every order earlier)
        (λ (last : Has (end ∷ []) order). subst (λ (one : List ℕ). HasSuchTotals config scripts kept (history_of config scripts one)) (only end order last) such)
        (has_either ends (end ∷ []) order has);
  }

  -- ---- the totals of the ends that are kept

  -- these are the totals of one of them
  pub record HasTotals (kept : List (List ℕ)) (totals : List ℕ) : Type 0 where
    pub order : List ℕ
    pub here : Has kept order
    pub same : totals ≡ totals_below config (history_of config scripts order) (length config.channels)

  module _ {A : Type 0} where
    abbrev by_items : Vec ℕ A → Vec ℕ A → Ordering
    by_items one other = slice_cmp nat_cmp one.items other.items

    -- the set has only their totals
    abbrev pub AreTotalsOf : List (List ℕ) → BTreeSet (Vec ℕ A) → Type 0
    AreTotalsOf kept seen = (one : Vec ℕ A) → contains by_items seen one ≡ true → HasTotals kept one.items

    -- an empty set has none
    pub no_totals : (kept : List (List ℕ)) (seen : BTreeSet (Vec ℕ A)) → seen.keys ≡ [] → AreTotalsOf kept seen
    no_totals kept seen empty one found = absurd (false≢true (sym (ap (λ (ones : List (Vec ℕ A)). list_any (is_at (by_items one)) ones) empty) ∙ found))

    -- the set is the same
    pub same_totals : (kept : List (List ℕ)) (old new : BTreeSet (Vec ℕ A)) → new.keys ≡ old.keys → AreTotalsOf kept old → AreTotalsOf kept new
    same_totals kept old new same are one found = are one (ap (λ (ones : List (Vec ℕ A)). list_any (is_at (by_items one)) ones) (sym same) ∙ found)

    -- one more end is kept, and its totals are in the set
    pub one_more : (kept : List (List ℕ)) (end : List ℕ) (old new : BTreeSet (Vec ℕ A)) (totals : Vec ℕ A) → AreTotalsOf kept old → Updates by_items old new totals true
        → totals.items ≡ totals_below config (history_of config scripts end) (length config.channels) → AreTotalsOf (kept ++ end ∷ []) new
    one_more kept end old new totals are updates is one found = ⊎_elim equal other (cases_Bool (is_at (by_items totals) one))
      where
        equal : is_at (by_items totals) one ≡ true → HasTotals (kept ++ end ∷ []) one.items
        equal here = record {
          order = end;
          here = has_behind kept (end ∷ []) end (0, refl);
          same = sym (exact_bytes totals.items one.items (equal_of (by_items totals one) here)) ∙ is;
        }

        other : is_at (by_items totals) one ≡ false → HasTotals (kept ++ end ∷ []) one.items
        other elsewhere =
            let was = are one (sym (updates.2 one elsewhere) ∙ found) in
            record { order = was.order; here = has_before kept (end ∷ []) was.order was.here; same = was.same }

-- ---- what equal totals say

module _ (config : Configuration) where
  abbrev totals_on : History → ℕ → List ℕ
  totals_on h c =
      count_of (accepted_on config c h) ∷ count_of (received_on config c h) ∷ count_of (cleared_on config c h)
      ∷ length (waiting_on config c h) ∷ []

  count : (h : History) (n : ℕ) → length (totals_below config h n) ≡ n + n + n + n
  count h zero = refl
  count h (suc n) =
      let before = count h n in
      let last : length (totals_on h n) ≡ 4 = refl in
      omega (arith, before, last, length-append (totals_below config h n) (totals_on h n))

  module _ (h g : History) where
    as_many : (n : ℕ) → length (totals_below config h n) ≡ length (totals_below config g n)
    as_many n = count h n ∙ sym (count g n)

    last_same : (n : ℕ) → totals_below config h (suc n) ≡ totals_below config g (suc n) → totals_on h n ≡ totals_on g n
    last_same n same =
        sym (drop-append_seam (totals_below config h n) (totals_on h n))
        ∙ (ap (λ (ns : List ℕ). drop (length (totals_below config h n)) ns) same
        ∙ (ap (λ (k : ℕ). drop k (totals_below config g n ++ totals_on g n)) (as_many n) ∙ drop-append_seam (totals_below config g n) (totals_on g n)))

    others_same : (n : ℕ) → totals_below config h (suc n) ≡ totals_below config g (suc n) → totals_below config h n ≡ totals_below config g n
    others_same n same =
        sym (take-append_seam (totals_below config h n) (totals_on h n))
        ∙ (ap (λ (ns : List ℕ). take (length (totals_below config h n)) ns) same
        ∙ (ap (λ (k : ℕ). take k (totals_below config g n ++ totals_on g n)) (as_many n) ∙ take-append_seam (totals_below config g n) (totals_on g n)))

    -- each of the first channels has the same counts after both
    same_below : (n : ℕ) → totals_below config h n ≡ totals_below config g n → (c : ℕ) → c < n → HasSameTotals config h g c
    same_below zero same c within = absurd (omega (arith, within))
    same_below (suc n) same c within =
        ⊎_elim
        (λ (before : c < n). same_below n (others_same n same) c before)
        (λ (last : n ≤ c).
        let on = last_same n same in
        let here : n ≡ c = omega (arith, last, within) in
        subst (λ (k : ℕ). HasSameTotals config h g k) here (record {
          counts = record {
            accepted = ap (λ (ns : List ℕ). get_or ns 0 0) on;
            received = ap (λ (ns : List ℕ). get_or ns 1 0) on;
            cleared = ap (λ (ns : List ℕ). get_or ns 2 0) on;
          };
          waiting = ap (λ (ns : List ℕ). get_or ns 3 0) on;
        }))
        (cases_lt c n)

  -- an end whose totals are those of an end that is kept
  pub such_of : (scripts : Scripts) (kept : List (List ℕ)) (h : History) → HasTotals config scripts kept (totals_below config h (length config.channels)) → HasSuchTotals config scripts kept h
  such_of scripts kept h has = record {
    order = has.order;
    here = has.here;
    same = same_below h (history_of config scripts has.order) (length config.channels) has.same;
  }
