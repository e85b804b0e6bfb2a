-- What a change of a tally does to it.
use Rattle.apex_judge.proofs.Common.{◌≡◌, ℕ, ◌+◌, ◌-◌, Bool, true, false, if◌then◌else◌, List, Vec, Option, sym, ap, subst, ◌∙◌, ⊎_elim, arith, unwrap_or, bytes_eq, cases_Bool, bytes_eq-Decides, times}
use Rattle.std.specs.BTreeMap.{BTreeMap, UpdatesBy}
use Rattle.std.specs.Cmp.{eq_by_cmp_equiv}
use Rattle.std.specs.Cmp.Lexicographic.{slice_cmp, nat_list_cmp_total, nat_list_eq_equiv}
use Rattle.std.specs.Map.{lookup, IsKeyTest, AreApart, KeepsOthers}
use Rattle.std.specs.Ordering.{is_eq, nat_cmp}
use Rattle.std.proofs.lemmas.Map.Text.{is_eq-slice_cmp}

apart : (bs cs ks : List ℕ) → bytes_eq bs cs ≡ false → is_eq (slice_cmp nat_cmp bs ks) ≡ true → is_eq (slice_cmp nat_cmp cs ks) ≡ false
apart bs cs ks differ same =
    let found : bytes_eq bs ks ≡ true = sym (is_eq-slice_cmp bs ks) ∙ same in
    is_eq-slice_cmp cs ks ∙ (nat_list_eq_equiv.symm cs ks ∙ (sym (nat_list_eq_equiv.congr bs ks cs found) ∙ differ))

module _ {K : Type 0} (eq : K → K → Bool) (test : K → Bool) where
  others_stay : {X : Type 0} (old new : List (K × X)) → KeepsOthers eq test old new → (other : K → Bool) → IsKeyTest eq other → AreApart test other → lookup other new ≡ lookup other old
  unfolding KeepsOthers
  others_stay old new kept = kept

module _ {A : Type 0} (bs : List ℕ) (old new : BTreeMap (Vec ℕ A) ℕ) (times_new : Option ℕ) (updates : UpdatesBy (λ (x y : Vec ℕ A). slice_cmp nat_cmp x.items y.items) (λ key. slice_cmp nat_cmp bs key.items) old new times_new) where
  here : (cs : List ℕ) → bytes_eq bs cs ≡ true → bs ≡ cs
  here cs same = (bytes_eq-Decides bs cs).0 same

  elsewhere : (cs : List ℕ) → bytes_eq bs cs ≡ false → times new cs ≡ times old cs
  elsewhere cs differ = ap (λ (found : Option ℕ). unwrap_or found 0) (others_stay _ _ _ _ updates.3 _ (λ x y. (eq_by_cmp_equiv nat_list_cmp_total).congr cs x.items y.items) (λ key. apart bs cs key.items differ))

  there : times new bs ≡ unwrap_or times_new 0
  there = ap (λ (found : Option ℕ). unwrap_or found 0) updates.1

  pub counted_more : unwrap_or times_new 0 ≡ times old bs + 1 → (cs : List ℕ) → times new cs ≡ times old cs + (if bytes_eq bs cs then 1 else 0)
  counted_more more cs =
      ⊎_elim
      (λ same. subst (λ other. times new other ≡ times old other + 1) (here cs same) (there ∙ more) ∙ (λ i. times old cs + (if sym same i then 1 else 0)))
      (λ differ. let same = elsewhere cs differ in subst (λ b. times new cs ≡ times old cs + (if b then 1 else 0)) (sym differ) (omega (arith, same)))
      (cases_Bool (bytes_eq bs cs))

  pub counted_less : unwrap_or times_new 0 ≡ times old bs - 1 → (cs : List ℕ) → times new cs ≡ times old cs - (if bytes_eq bs cs then 1 else 0)
  counted_less less cs =
      ⊎_elim
      (λ same. subst (λ other. times new other ≡ times old other - 1) (here cs same) (there ∙ less) ∙ (λ i. times old cs - (if sym same i then 1 else 0)))
      (λ differ. let same = elsewhere cs differ in subst (λ b. times new cs ≡ times old cs - (if b then 1 else 0)) (sym differ) (omega (arith, same)))
      (cases_Bool (bytes_eq bs cs))
