use Rattle.apex_groups.proofs.Common.{◌≡◌, ◌≤◌, ◌++◌, ◌∷◌, [], ℕ, length, List, Option, Some, None, refl, sym, ap, ◌∙◌, subst, arith, slice_get, slice_get-get_or, slice_index_or, option_to_list, length-append, ArePut, Found}
use Rattle.apex_orders.proofs.Lists.{at_seam, stays_before}
use Rattle.apex_groups.proofs.AnswerLemmas.{missing_after, put_one}
use Rattle.apex_groups.proofs.questions.put_all.Goals as goal

pub put_at-requires : goal.put_at-requires
put_at-requires c =
    let indexes = c.args.indexes.now in
    let left = c.pop.new.self.items in
    let cut : c.loop-one.found.items ≡ left ++ c.in-Some.one ∷ [] = c.pop.ensures.items ∙ ap (λ (o : Option Found). left ++ option_to_list o) c.in-Some.is in
    let more = ap (λ (xs : List Found). length xs) cut ∙ length-append left (c.in-Some.one ∷ []) in
    let few = c.loop-one.invariant.few in
    let len : c.len.result ≡ length left = c.len.ensures ∙ c.pop.new.self.ok.0 in
    let within = c.requires.within (slice_index_or indexes c.len.result 0) (c.len.result, slice_get-get_or indexes c.len.result 0 (omega (arith, more, few, len))) in
    let count = c.loop-one.invariant.put.count in
    omega (arith, within, count)

pub loop-one-preserved : goal.loop-one-preserved
loop-one-preserved c =
    let indexes = c.args.indexes.now in
    let found = c.args.found.items in
    let old = c.args.answers.now in
    let left = c.pop.new.self.items in
    let one = c.in-Some.one in
    let cut : c.loop-one.found.items ≡ left ++ one ∷ [] = c.pop.ensures.items ∙ ap (λ (o : Option Found). left ++ option_to_list o) c.in-Some.is in
    let more = ap (λ (xs : List Found). length xs) cut ∙ length-append left (one ∷ []) in
    let few = c.loop-one.invariant.few in
    let len : c.len.result ≡ length left = c.len.ensures ∙ c.pop.new.self.ok.0 in
    let k = slice_index_or indexes c.len.result 0 in
    let index : slice_get indexes (length left) ≡ Some k = subst (λ (n : ℕ). slice_get indexes n ≡ Some k) len (slice_get-get_or indexes c.len.result 0 (omega (arith, more, few, len))) in
    let at : slice_get found (length left) ≡ Some one = c.loop-one.invariant.rest (length left) one (ap (λ (xs : List Found). slice_get xs (length left)) cut ∙ at_seam left one []) in
    record {
      few = omega (arith, more, few);
      rest = λ j x here. c.loop-one.invariant.rest j x (ap (λ (xs : List Found). slice_get xs j) cut ∙ stays_before left (one ∷ []) j x here);
      put = subst (ArePut (λ one answer. one ≡ answer) indexes found old) (sym c.put_at.ensures)
          (put_one (λ (one answer : Found). one ≡ answer) indexes found old c.loop-one.answers c.loop-one.invariant.put (length left) k one (Some one) index at refl);
      missing = subst (λ (now : List (Option Found)). (q : ℕ) → slice_get now q ≡ Some None → (slice_get old q ≡ Some None) × ((j : ℕ) → length left ≤ j → ¬ (slice_get indexes j ≡ Some q))) (sym c.put_at.ensures)
          (missing_after indexes old c.loop-one.answers k (length left) one index
          (λ q none. let was = c.loop-one.invariant.missing q none in (was.0, λ j above. was.1 j (omega (arith, above, more)))));
    }
