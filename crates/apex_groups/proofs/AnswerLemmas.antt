-- Answers put to their indexes.
use Rattle.apex_groups.proofs.Common.{zero, suc, replicate, ◌≡◌, ◌≢◌, inl, inr, ⊎_elim, cases_eq, ℕ, ◌+◌, ◌<◌, ◌≤◌, Bool, List, [], ◌∷◌, ◌++◌, length, map, Option, Some, None, refl, sym, ap, ◌∙◌, subst, arith, set, length-set, IfSome, slice_get, slice_get_within, slice_get-map, option_map, take, length-append, Configuration, Scripts, Asked, Has, Found, IsPut, ArePut, ArePicked, AreKnown, AreOfPart}
use Rattle.std.proofs.Math.Seq.{take-append_seam}
use Rattle.std.proofs.lemmas.List.{length-map}
use Rattle.apex_ports.proofs.Stays.{slice_get-set_cases}
use Rattle.apex_orders.proofs.ChoiceLemmas.{one_more}
use Rattle.apex_orders.proofs.Having.{first_or_rest, has_before, has_behind, has_either, has_none}
use Rattle.apex_orders.proofs.Lists.{at_seam, before_or_last, stays_before}
use Rattle.apex_orders.specs.Outcomes.{AreAnswersTo, IsAnswerTo}
use Rattle.apex_groups.specs.Parts.{part_of_index}
use Rattle.apex_groups.specs.declared.parts.Parts.{Parts}
use Rattle.apex_groups.specs.declared.questions.Picked.{Picked}
use Rattle.apex_groups.proofs.Lists.{item_at}

-- ---- answers at their indexes

module _ {X Y : Type 0} (Fits : X → Y → Type 0) (indexes : List ℕ) (items : List X) where
  pub put_nothing : (old : List (Option Y)) → ArePut Fits indexes items old old
  put_nothing old = record { count = refl; each = λ k answer at. inl at }

  pub put_one : (old mid : List (Option Y)) → ArePut Fits indexes items old mid → (j k : ℕ) (item : X) (answer : Option Y) → slice_get indexes j ≡ Some k → slice_get items j ≡ Some item → IfSome answer (Fits item)
      → ArePut Fits indexes items old (set mid k answer)
  put_one old mid put j k item answer index at fits = record {
    count = length-set mid k answer ∙ put.count;
    each = λ q one now. ⊎_elim
        (λ (here : (q ≡ k) × (Some one ≡ answer)). inr (record {
          j = j;
          item = item;
          index = index ∙ ap Some (sym here.0);
          at = at;
          fits = subst (λ (o : Option Y). IfSome o (Fits item)) (sym here.1) fits;
        }))
        (λ (there : (q ≢ k) × (slice_get mid q ≡ Some (Some one))). put.each q one there.1)
        (slice_get-set_cases mid k answer q (Some one) now);
  }

  -- what fits the items fits others at the same places
  pub put_alike : {Z : Type 0} (Other : Z → Y → Type 0) (others : List Z) → ((j : ℕ) (x : X) (y : Y) → slice_get items j ≡ Some x → Fits x y → (z : Z) × (slice_get others j ≡ Some z) × Other z y)
      → (old new : List (Option Y)) → ArePut Fits indexes items old new → ArePut Other indexes others old new
  put_alike {Z} Other others alike old new put = record {
    count = put.count;
    each = λ k answer now. ⊎_elim
        (λ (before : slice_get old k ≡ Some (Some answer)). inl before)
        (λ (is : IsPut Fits indexes items k answer).
        let other = alike is.j is.item answer is.at is.fits in
        inr (record { j = is.j; item = other.0; index = is.index; at = other.1; fits = other.2 }))
        (put.each k answer now);
  }

-- a list whose items were all replaced
pub written_back : {X : Type 0} (new more : List X) (n : ℕ) → n ≡ length new → take n (new ++ more) ≡ new
written_back new more n is = ap (λ (k : ℕ). take k (new ++ more)) is ∙ take-append_seam new more

-- ---- some of the questions

pub one_picked : (asked : List Asked) (picked more : Picked) (k : ℕ) (one : Asked) → ArePicked asked picked → slice_get asked k ≡ Some one
    → more.indexes.items ≡ picked.indexes.items ++ k ∷ [] → more.asked.items ≡ picked.asked.items ++ one ∷ [] → ArePicked asked more
one_picked asked picked more k one are at indexes questions = record {
  count =
      let count = are.count in
      let now = ap (λ (xs : List Asked). length xs) questions ∙ length-append picked.asked.items (one ∷ []) in
      let then = ap (λ (ks : List ℕ). length ks) indexes ∙ length-append picked.indexes.items (k ∷ []) in
      omega (arith, count, now, then);
  each = λ j q here. ⊎_elim
      (λ (before : slice_get picked.indexes.items j ≡ Some q).
      let was = are.each j q before in
      (was.0, was.1, ap (λ (xs : List Asked). slice_get xs j) questions ∙ stays_before picked.asked.items (one ∷ []) j was.0 was.2))
      (λ (last : (j ≡ length picked.indexes.items) × (k ≡ q)).
      let place : j ≡ length picked.asked.items = last.0 ∙ sym are.count in (
        one,
        subst (λ (n : ℕ). slice_get asked n ≡ Some one) last.1 at,
        ap (λ (xs : List Asked). slice_get xs j) questions ∙ (ap (slice_get (picked.asked.items ++ one ∷ [])) place ∙ at_seam picked.asked.items one []),
      ))
      (before_or_last picked.indexes.items k j q (sym (ap (λ (ks : List ℕ). slice_get ks j) indexes) ∙ here));
}

pub picked_within : (asked : List Asked) (picked : Picked) → ArePicked asked picked → (k : ℕ) → Has picked.indexes.items k → k < length asked
picked_within asked picked are k has = let one = are.each has.0 k has.1 in slice_get_within asked k one.0 one.1

pub one_of_part : (config : Configuration) (parts : Parts) (scripts : Scripts) (part : ℕ) (old new : List Asked) (one : Asked) → AreOfPart config parts scripts part old
    → part_of_index config parts scripts one.partition one.index ≡ part → new ≡ old ++ one ∷ [] → AreOfPart config parts scripts part new
one_of_part config parts scripts part old new one are same is other has = ⊎_elim
    (λ (before : Has old other). are other before)
    (λ (last : Has (one ∷ []) other). ⊎_elim
    (λ (first : one ≡ other). subst (λ (q : Asked). part_of_index config parts scripts q.partition q.index ≡ part) first same)
    (λ (rest : Has [] other). absurd (has_none other rest))
    (first_or_rest one [] other last))
    (has_either old (one ∷ []) other (subst (λ (all : List Asked). Has all other) is has))

-- the places below the next one have their indexes
pub one_more_listed : (P : ℕ → Type 0) (old new : List ℕ) (n : ℕ) → ((k : ℕ) → k < n → P k → Has old k) → new ≡ old ++ n ∷ [] → (k : ℕ) → k < n + 1 → P k → Has new k
one_more_listed P old new n all is =
    subst (λ (ks : List ℕ). (k : ℕ) → k < n + 1 → P k → Has ks k) (sym is)
    (one_more (λ (k : ℕ). P k → Has (old ++ n ∷ []) k) n
    (λ k below p. has_before old (n ∷ []) k (all k below p))
    (λ p. has_behind old (n ∷ []) n (0, refl)))

-- ---- answers to all questions

module _ (clock : Bool) (can_stop : Type 0) (config : Configuration) (scripts : Scripts) (bound : ℕ) where
  pub known_after : (asked : List Asked) (picked : Picked) (old new : List (Option Found)) → ArePicked asked picked → ArePut (IsAnswerTo clock can_stop config scripts bound) picked.indexes.items picked.asked.items old new
      → AreKnown clock can_stop config scripts bound asked old → AreKnown clock can_stop config scripts bound asked new
  known_after asked picked old new are put known k one answer at now = ⊎_elim
      (λ (before : slice_get old k ≡ Some (Some answer)). known k one answer at before)
      (λ (is : IsPut (IsAnswerTo clock can_stop config scripts bound) picked.indexes.items picked.asked.items k answer).
      let other = are.each is.j k is.index in
      let all : Some other.0 ≡ Some one = sym other.1 ∙ at in
      let some : Some is.item ≡ Some other.0 = sym is.at ∙ other.2 in
      let same : is.item ≡ one = cc in
      subst (λ (question : Asked). IsAnswerTo clock can_stop config scripts bound question answer) same is.fits)
      (put.each k answer now)

  -- a question that is picked is answered by the answer at its place
  pub fits_there : (asked : List Asked) (found : List Found) → AreAnswersTo clock can_stop config scripts bound asked found → (j : ℕ) (x y : Found) → slice_get found j ≡ Some x → x ≡ y
      → (one : Asked) × (slice_get asked j ≡ Some one) × IsAnswerTo clock can_stop config scripts bound one y
  fits_there asked found are j x y at same =
      let within = slice_get_within found j x at in
      let count = are.count in
      let one = item_at asked j (omega (arith, within, count)) in
      (one.0, one.1, subst (IsAnswerTo clock can_stop config scripts bound one.0) same (are.each j one.0 x one.1 at))

  pub all_known : (asked : List Asked) (answers : List (Option Found)) (all : List Found) → AreKnown clock can_stop config scripts bound asked answers → length answers ≡ length asked → map Some all ≡ answers
      → AreAnswersTo clock can_stop config scripts bound asked all
  all_known asked answers all known count same = record {
    count = sym (length-map all Some) ∙ (ap (λ (xs : List (Option Found)). length xs) same ∙ count);
    each = λ k one answer at now.
        known k one answer at (sym (ap (λ (xs : List (Option Found)). slice_get xs k) same) ∙ (slice_get-map Some all k ∙ ap (option_map Some) now));
  }

  -- the only answer is that to the only question
  pub only_answer : (asked : Asked) (listed : List Asked) (answers left : List Found) (answer : Found) → listed ≡ asked ∷ [] → AreAnswersTo clock can_stop config scripts bound listed answers → answers ≡ left ++ answer ∷ []
      → IsAnswerTo clock can_stop config scripts bound asked answer
  only_answer asked listed answers left answer one are last =
      let count = are.count in
      let single = ap (λ (xs : List Asked). length xs) one in
      let more = ap (λ (xs : List Found). length xs) last ∙ length-append left (answer ∷ []) in
      let first : length left ≡ 0 = omega (arith, count, single, more) in
      are.each 0 asked answer (ap (λ (xs : List Asked). slice_get xs 0) one)
      (ap (λ (xs : List Found). slice_get xs 0) last ∙ (ap (slice_get (left ++ answer ∷ [])) (sym first) ∙ at_seam left answer []))

  pub none_known : (asked : List Asked) (answers : List (Option Found)) (n : ℕ) → answers ≡ replicate n None → AreKnown clock can_stop config scripts bound asked answers
  none_known asked answers n none k one answer at now = absurd (only n k (sym (ap (λ (xs : List (Option Found)). slice_get xs k) none) ∙ now))
    where
      only : (n k : ℕ) → slice_get (replicate n None) k ≡ Some (Some answer) → ⊥
      only zero k is = absurd (cc)
      only (suc n) zero is = absurd (cc)
      only (suc n) (suc k) is = only n k is

-- ---- the answers that were missing

-- what an index put in the end, or did not
pub missing_after : {X : Type 0} (indexes : List ℕ) (before mid : List (Option X)) (k n : ℕ) (x : X) → slice_get indexes n ≡ Some k
    → ((q : ℕ) → slice_get mid q ≡ Some None → (slice_get before q ≡ Some None) × ((j : ℕ) → n < j → ¬ (slice_get indexes j ≡ Some q)))
    → (q : ℕ) → slice_get (set mid k (Some x)) q ≡ Some None → (slice_get before q ≡ Some None) × ((j : ℕ) → n ≤ j → ¬ (slice_get indexes j ≡ Some q))
missing_after {X} indexes before mid k n x index missing q now = ⊎_elim
    (λ (here : (q ≡ k) × (◌≡◌ {A = Option X} None (Some x))). absurd (let is = here.1 in cc))
    (λ (there : (q ≢ k) × (slice_get mid q ≡ Some None)).
    let was = missing q there.1 in (
      was.0,
      λ j from at. ⊎_elim
          (λ (same : j ≡ n).
          let both : Some q ≡ Some k = sym at ∙ (ap (slice_get indexes) same ∙ index) in
          let alike : q ≡ k = cc in
          there.0 alike)
          (λ (other : j ≢ n). was.1 j (omega (arith, from, other)) at)
          (cases_eq j n),
    ))
    (slice_get-set_cases mid k (Some x) q None now)
