-- What one more dead end does to the set of them.
use Rattle.apex_log_orders.proofs.Common.{◌≡◌, ◌⊎◌, inl, inr, ⊎_elim, ℕ, Bool, true, false, List, Vec, length, Result, Ok, Err, OnOk, OnErr, sym, ap, ◌∙◌, subst, list_any, cases_Bool, Configuration, IsConfiguration, History, Logs, IsBeginning, Ends, HasKey, has_key, AreDead}
use Rattle.std.specs.BTreeMap.{is_at}
use Rattle.std.specs.BTreeSet.{BTreeSet, UpdatesBy}
use Rattle.std.specs.Cmp.{eq_by_cmp_equiv}
use Rattle.std.specs.Cmp.Lexicographic.{slice_cmp, nat_list_cmp_total, nat_list_eq_equiv}
use Rattle.std.specs.Map.{IsKeyTest, AreApart}
use Rattle.std.specs.Set.{KeepsOthers}
use Rattle.std.specs.Ordering.{is_eq, nat_cmp}
use Rattle.std.specs.Str.{bytes_eq}
use Rattle.std.proofs.lemmas.Map.Text.{is_eq-slice_cmp}
use Rattle.std.proofs.lemmas.Slice.Eq.{bytes_eq-Decides}
use Rattle.apex_log_orders.proofs.Keys.{ends_alike}

apart : (ns ms ks : List ℕ) → bytes_eq ns ms ≡ false → is_eq (slice_cmp nat_cmp ns ks) ≡ true → is_eq (slice_cmp nat_cmp ms ks) ≡ false
apart ns ms ks differ same =
    let found : bytes_eq ns ks ≡ true = sym (is_eq-slice_cmp ns ks) ∙ same in
    is_eq-slice_cmp ms ks ∙ (nat_list_eq_equiv.symm ms ks ∙ (sym (nat_list_eq_equiv.congr ns ks ms found) ∙ differ))

module _ {K : Type 0} (eq : K → K → Bool) (test : K → Bool) where
  others_stay : (old new : List K) → KeepsOthers eq test old new → (other : K → Bool) → IsKeyTest eq other → AreApart test other → list_any other new ≡ list_any other old
  unfolding KeepsOthers
  others_stay old new kept = kept

-- a key of the set is the new one, or was there before
pub new_or_old : {A : Type 0} (key : List ℕ) (old new : BTreeSet (Vec ℕ A)) → UpdatesBy (λ (x y : Vec ℕ A). slice_cmp nat_cmp x.items y.items) (λ other. slice_cmp nat_cmp key other.items) old new true
    → (other : List ℕ) → has_key new other ≡ true → (key ≡ other) ⊎ (has_key old other ≡ true)
new_or_old {A} key old new updates other there = ⊎_elim
    (λ same. inl ((bytes_eq-Decides key other).0 same))
    (λ differ. inr (sym (others_stay _ _ _ _ updates.3 _ (λ x y. (eq_by_cmp_equiv nat_list_cmp_total).congr other x.items y.items) (λ one. apart key other one.items differ)) ∙ there))
    (cases_Bool (bytes_eq key other))

-- what both ways of an attempt give
pub either_way : {X Y : Type 0} {P Q : Type 0} (result : Result X Y) → OnOk result P → OnErr result Q → P ⊎ Q
either_way (Ok x) done failed = inl done
either_way (Err e) done failed = inr failed

module _ {A : Type 0} (config : Configuration) (logs : Logs) (front : History) (key : List ℕ) (old new : BTreeSet (Vec ℕ A)) (dead : AreDead config logs old) where
  pub dead_more : IsConfiguration config → length logs ≡ length config.partitions → IsBeginning config logs front → HasKey config front key → (Ends config logs front → ⊥)
      → UpdatesBy (λ (x y : Vec ℕ A). slice_cmp nat_cmp x.items y.items) (λ other. slice_cmp nat_cmp key other.items) old new true → AreDead config logs new
  dead_more valid all leads here none updates other history there begins is ends = ⊎_elim
      (λ (same : key ≡ other). none (ends_alike config logs history front key begins leads (subst (HasKey config history) (sym same) is) here valid all ends))
      (λ was. dead other history was begins is ends)
      (new_or_old key old new updates other there)

  pub dead_still : new.keys ≡ old.keys → AreDead config logs new
  dead_still same other history there = dead other history (ap (λ (ks : List (Vec ℕ A)). list_any (is_at (λ (one : Vec ℕ A). slice_cmp nat_cmp other one.items)) ks) (sym same) ∙ there)
