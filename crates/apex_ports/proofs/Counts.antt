-- The number of calls of each partition, after one more.
use Rattle.apex_ports.proofs.Common.{◌≡◌, ◌≢◌, ℕ, ◌+◌, ◌-◌, ◌^◌, ◌==◌, Bool, true, false, if◌then◌else◌, min, List, [], ◌∷◌, ◌++◌, length, set, Some, refl, sym, ap, ◌∙◌, arith, length-append, length-set, append-nil, slice_get, nat_tests, filter-append, Call, Moment, Reply, Configuration, Entry, count_of, History, entries_of, entry_of, AreCounted}
use Rattle.apex_ports.proofs.Stays.{each_at_set}

-- the count of a list with one more item
pub count-push : {X : Type 0} (xs : List X) (x : X) (n : ℕ) → n ≡ count_of xs → min (n + 1) (2 ^ 64 - 1) ≡ count_of (xs ++ x ∷ [])
count-push xs x n is = let longer = length-append xs (x ∷ []) in omega arith

-- the count of a list with several more items
pub count-append : {X : Type 0} (xs ys : List X) (n : ℕ) → n ≡ count_of xs → min (n + length ys) (2 ^ 64 - 1) ≡ count_of (xs ++ ys)
count-append xs ys n is = let longer = length-append xs ys in omega arith

-- one more entry counts only for its partition
one_more : (q : ℕ) (e : Entry) → entries_of q (e ∷ []) ≡ (if e.partition == q then e ∷ [] else [])
one_more q e = by_test (e.partition == q) refl
  where
    by_test : (b : Bool) → (e.partition == q) ≡ b → (if b then e ∷ [] else []) ≡ (if b then e ∷ [] else [])
    by_test b is = refl

entries_of-append : (q : ℕ) (h : History) (e : Entry) → entries_of q (h ++ e ∷ []) ≡ entries_of q h ++ (if e.partition == q then e ∷ [] else [])
entries_of-append q h e = filter-append (λ entry. entry.partition == q) h (e ∷ []) ∙ ap (λ es. entries_of q h ++ es) (one_more q e)

pub counted-push : (config : Configuration) (h : History) (calls : List ℕ) (p : ℕ) (at : Moment) (call : Call) (reply : Reply) (n new : ℕ)
    → AreCounted config h calls → slice_get calls p ≡ Some n → new ≡ min (n + 1) (2 ^ 64 - 1) → AreCounted config (h ++ entry_of p at call reply ∷ []) (set calls p new)
counted-push config h calls p at call reply n new was here more = record {
  all = length-set calls p new ∙ was.all;
  each = each_at_set (λ q count. count ≡ count_of (entries_of q h)) (λ q count. count ≡ count_of (entries_of q (h ++ e ∷ []))) calls p new was.each others mine;
}
  where
    e : Entry
    e = entry_of p at call reply

    others : (q : ℕ) (count : ℕ) → q ≢ p → count ≡ count_of (entries_of q h) → count ≡ count_of (entries_of q (h ++ e ∷ []))
    others q count apart is =
        let off : (p == q) ≡ false = grind (arith, nat_tests) in
        is ∙ ap count_of (sym (entries_of-append q h e ∙ ((λ i. entries_of q h ++ (if off i then e ∷ [] else [])) ∙ append-nil (entries_of q h))))

    mine : new ≡ count_of (entries_of p (h ++ e ∷ []))
    mine =
        let on : (p == p) ≡ true = grind (arith, nat_tests) in
        more ∙ (count-push (entries_of p h) e n (was.each p n here) ∙ ap count_of (sym (entries_of-append p h e ∙ (λ i. entries_of p h ++ (if on i then e ∷ [] else [])))))
