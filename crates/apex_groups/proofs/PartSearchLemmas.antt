-- Searches of parts.
use Rattle.apex_groups.proofs.Common.{◌≡◌, ◌≢◌, ⊎_elim, ℕ, zero, suc, Bool, List, [], ◌∷◌, ◌++◌, length, length-set, replicate, Option, Some, None, sym, ap, ◌∙◌, refl, subst, set, slice_get, in_group, Configuration, Scripts, IsFoundOf}
use Rattle.apex_groups.specs.PartSearches.{IsFarEnough, IsPartOf, IsSearcher, SaysAll}
use Rattle.apex_groups.specs.declared.script_part.ScriptPart.{ScriptPart}
use Rattle.apex_groups.specs.declared.searcher.Searcher.{Searcher}
use Rattle.apex_orders.proofs.Lists.{before_or_last}
use Rattle.apex_orders.specs.declared.outcome_search.Searched.{Searched}
use Rattle.apex_orders.specs.declared.outcomes.Outcomes.{Outcomes}
use Rattle.apex_ports.proofs.Stays.{slice_get-set_cases}

-- what holds of each item, and of one more
pub each_and_last : {X : Type 0} (P : X → Type 0) (xs : List X) (x : X) → ((k : ℕ) (y : X) → slice_get xs k ≡ Some y → P y) → P x → (k : ℕ) (y : X) → slice_get (xs ++ x ∷ []) k ≡ Some y → P y
each_and_last {X} P xs x each last k y at =
    ⊎_elim
    (λ (before : slice_get xs k ≡ Some y). each k y before)
    (λ (is : (k ≡ length xs) × (x ≡ y)). subst P is.1 last)
    (before_or_last xs x k y at)

-- what holds of each item, and of one that is set
pub each_and_set : {X : Type 0} (P : X → Type 0) (xs : List X) (i : ℕ) (x : X) → ((k : ℕ) (y : X) → slice_get xs k ≡ Some y → P y) → P x → (k : ℕ) (y : X) → slice_get (set xs i x) k ≡ Some y → P y
each_and_set {X} P xs i x each is k y at =
    ⊎_elim
    (λ (own : (k ≡ i) × (y ≡ x)). subst P (sym own.1) is)
    (λ (another : (k ≢ i) × (slice_get xs k ≡ Some y)). each k y another.1)
    (slice_get-set_cases xs i x k y at)

-- ---- what is found

pub found_of_part : (clock : Bool) (config : Configuration) (scripts : Scripts) (one : ScriptPart) (found : Outcomes) → IsPartOf config scripts one → SaysAll clock config one.scripts.items found
    → IsFoundOf clock config (in_group one.members.of_partitions.items 1) scripts found
found_of_part clock config scripts one found is says = record { part = one.scripts.items; is = is.is; replies = says.replies; ends = says.ends }

-- ---- threads

pub searched_none : (clock : Bool) (config : Configuration) (bound : ℕ) (parts : List ScriptPart) (one : Searcher) → one.searched.items ≡ replicate (length parts) None → IsSearcher clock config bound parts one
searched_none clock config bound parts one none = record {
  count = ap (λ (items : List (Option Searched)). length items) none ∙ all_none (length parts);
  each = λ k part found here at. absurd (only (length parts) k found (sym (ap (λ (items : List (Option Searched)). slice_get items k) none) ∙ at));
}
  where
    all_none : (n : ℕ) → length {A = Option Searched} (replicate n None) ≡ n
    all_none zero = refl
    all_none (suc n) = ap suc (all_none n)

    only : (n k : ℕ) (found : Searched) → slice_get (replicate n None) k ≡ Some (Some found) → ⊥
    only zero k found is = absurd (cc)
    only (suc n) zero found is = absurd (cc)
    only (suc n) (suc k) found is = only n k found is

module _ (clock : Bool) (config : Configuration) (bound : ℕ) (parts : List ScriptPart) where
  -- one part is searched further
  pub one_searched : (one after : Searcher) (i : ℕ) (part : ScriptPart) (searched : Searched) → IsSearcher clock config bound parts one → slice_get parts i ≡ Some part
      → IsFarEnough clock (Unit {0}) config part.scripts.items bound searched → after.searched.items ≡ set one.searched.items i (Some searched) → IsSearcher clock config bound parts after
  one_searched one after i part searched is here far set-is = record {
    count = ap (λ (items : List (Option Searched)). length items) set-is ∙ (length-set one.searched.items i (Some searched) ∙ is.count);
    each = λ k other found at now.
        ⊎_elim
        (λ (own : (k ≡ i) × (Some found ≡ Some searched)).
        let both : Some part ≡ Some other = sym here ∙ (ap (λ (n : ℕ). slice_get parts n) (sym own.0) ∙ at) in
        let same : part ≡ other = cc in
        let kept = own.1 in
        let equal : searched ≡ found = cc in
        subst (λ (x : ScriptPart × Searched). IsFarEnough clock (Unit {0}) config x.0.scripts.items bound x.1) (λ j. (same j, equal j)) far)
        (λ (another : (k ≢ i) × (slice_get one.searched.items k ≡ Some (Some found))). is.each k other found at another.1)
        (slice_get-set_cases one.searched.items i (Some searched) k (Some found) (sym (ap (λ (items : List (Option Searched)). slice_get items k) set-is) ∙ now));
  }

  -- how far a part was searched is taken
  pub one_taken : (one after : Searcher) (i : ℕ) → IsSearcher clock config bound parts one → after.searched.items ≡ set one.searched.items i None → IsSearcher clock config bound parts after
  one_taken one after i is set-is = record {
    count = ap (λ (items : List (Option Searched)). length items) set-is ∙ (length-set one.searched.items i None ∙ is.count);
    each = λ k other found at now.
        ⊎_elim
        (λ (own : (k ≡ i) × (Some found ≡ None)). absurd (let none = own.1 in cc))
        (λ (another : (k ≢ i) × (slice_get one.searched.items k ≡ Some (Some found))). is.each k other found at another.1)
        (slice_get-set_cases one.searched.items i None k (Some found) (sym (ap (λ (items : List (Option Searched)). slice_get items k) set-is) ∙ now));
  }
