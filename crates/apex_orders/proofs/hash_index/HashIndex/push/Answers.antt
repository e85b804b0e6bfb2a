use Rattle.apex_orders.proofs.Common.{◌≡◌, ◌++◌, ◌∷◌, [], List, ℕ, length, sym, ◌∙◌, subst, rules, AreFiled, AreFiledBelow}
use Rattle.apex_orders.proofs.BucketLemmas.{filed_more}
use Rattle.apex_orders.proofs.hash_index.HashIndex.push.Goals as goal

pub file-requires-clause-filed : goal.file-requires-clause-filed
file-requires-clause-filed c =
    let hashes = c.self.inside.hashes.items in
    let earlier = c.spread.new.earlier.items in
    let last = c.spread.new.last.items in
    let filed : AreFiled hashes earlier last = subst (λ (all : List ℕ). AreFiled all earlier last) c.as_slice-hashes.ensures.value c.spread.ensures in
    let more : c.as_slice-more.result.now ≡ hashes ++ c.args.hash ∷ [] = c.as_slice-more.ensures.value ∙ c.in_ok-push-2.ensures.items in
    let places : c.push.new.self.items ≡ earlier ++ 0 ∷ [] = c.in_ok-push.ensures.items in
    let count : c.len-index.result ≡ length hashes = search rules in
    subst (λ (x : List ℕ × List ℕ × ℕ). AreFiledBelow x.0 x.1 last x.2) (λ i. (sym more i, sym places i, sym count i))
    (filed_more hashes earlier last c.args.hash filed)
