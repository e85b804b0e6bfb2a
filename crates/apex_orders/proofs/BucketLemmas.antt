-- Hashes in buckets.
use Rattle.apex_orders.proofs.Common.{◌≡◌, ⊎_elim, ℕ, ◌+◌, ◌<◌, ◌≤◌, List, [], ◌∷◌, ◌++◌, length, length-append, get_or, Some, sym, ap, ◌∙◌, subst, arith, slice_get, cases_eq, slice_get-get_or, get_or_from_slice_get, slice_get_within, get_or-set_same, get_or-set_other, length-set, IsLastOf, AreChained, AreFiledBelow, AreFiled, bucket_of}
use Rattle.std.proofs.Math.ListN.{set}
use Rattle.apex_orders.proofs.Lists.{before_or_last, stays_before}

was_before : (xs : List ℕ) (x k y : ℕ) → k < length xs → slice_get (xs ++ x ∷ []) k ≡ Some y → slice_get xs k ≡ Some y
was_before xs x k y within at =
    ⊎_elim
    (λ (before : slice_get xs k ≡ Some y). before)
    (λ (last : (k ≡ length xs) × (x ≡ y)). absurd (omega (arith, within, last.0)))
    (before_or_last xs x k y at)

still_there : (xs : List ℕ) (x k : ℕ) → k < length xs → get_or (xs ++ x ∷ []) k 0 ≡ get_or xs k 0
still_there xs x k within =
    get_or_from_slice_get (xs ++ x ∷ []) k (get_or xs k 0) 0 (stays_before xs (x ∷ []) k (get_or xs k 0) (slice_get-get_or xs k 0 within))

last_of_more : (hashes : List ℕ) (hash buckets b n place : ℕ) → n ≤ length hashes → IsLastOf hashes buckets b n place → IsLastOf (hashes ++ hash ∷ []) buckets b n place
last_of_more hashes hash buckets b n place below last = record {
  within = last.within;
  own = λ k other is at. let within = last.within in last.own k other is (was_before hashes hash k other (omega (arith, within, is, below)) at);
  rest = λ k other inside at same. last.rest k other inside (was_before hashes hash k other (omega (arith, inside, below)) at) same;
}

-- ---- room for one more place

pub filed_room : (hashes earlier last : List ℕ) → AreFiled hashes earlier last → AreFiled hashes (earlier ++ 0 ∷ []) last
filed_room hashes earlier last filed = record {
  some = filed.some;
  chained = record {
    room = let room = filed.chained.room in omega (arith, room, length-append earlier (0 ∷ []));
    each = λ k hash below at.
        let room = filed.chained.room in
        subst (IsLastOf hashes (length last) (bucket_of hash (length last)) k) (sym (still_there earlier 0 k (omega (arith, below, room)))) (filed.chained.each k hash below at);
  };
  heads = filed.heads;
}

-- one more hash, which isn't filed yet
pub filed_more : (hashes earlier last : List ℕ) (hash : ℕ) → AreFiled hashes earlier last → AreFiledBelow (hashes ++ hash ∷ []) (earlier ++ 0 ∷ []) last (length hashes)
filed_more hashes earlier last hash filed =
    let more = filed_room hashes earlier last filed in
    record {
      some = filed.some;
      chained = record {
        room = let room = filed.chained.room in omega (arith, room, length-append earlier (0 ∷ []), length-append hashes (hash ∷ []));
        each = λ k other below at.
            last_of_more hashes hash (length last) (bucket_of other (length last)) k (get_or (earlier ++ 0 ∷ []) k 0) (omega (arith, below))
            (more.chained.each k other below (was_before hashes hash k other below at));
      };
      heads = λ b within. last_of_more hashes hash (length last) b (length hashes) (get_or last b 0) (omega arith) (filed.heads b within);
    }

-- ---- filing one

module _ (hashes earlier last : List ℕ) (index hash b place : ℕ) (filed : AreFiledBelow hashes earlier last index) (at : slice_get hashes index ≡ Some hash)
    (own : b ≡ bucket_of hash (length last)) (within : b < length last) (is : place ≡ get_or last b 0) where
  same_count : length (set last b (index + 1)) ≡ length last
  same_count = length-set last b (index + 1)

  same_hash_at : (k other : ℕ) → k ≡ index → slice_get hashes k ≡ Some other → other ≡ hash
  same_hash_at k other here there =
      let both : Some other ≡ Some hash = sym there ∙ (ap (λ (n : ℕ). slice_get hashes n) here ∙ at) in
      cc

  one_chained : AreChained hashes (set earlier index place) (length last) (index + 1)
  one_chained = record {
    room = let room = filed.chained.room in omega (arith, room, length-set earlier index place);
    each = λ k other below there.
        ⊎_elim
        (λ (here : k ≡ index).
        let room = filed.chained.room in
        let inside = slice_get_within hashes index hash at in
        let now : get_or (set earlier index place) k 0 ≡ get_or last b 0 =
        ap (λ (n : ℕ). get_or (set earlier index place) n 0) here ∙ (get_or-set_same earlier index place 0 (omega (arith, room, inside)) ∙ is) in
        let bucket : b ≡ bucket_of other (length last) = own ∙ ap (λ (n : ℕ). bucket_of n (length last)) (sym (same_hash_at k other here there)) in
        subst (λ (x : ℕ × ℕ × ℕ). IsLastOf hashes (length last) x.0 x.1 x.2) (λ i. (bucket i, sym here i, sym now i)) (filed.heads b within))
        (λ (apart : k ≡ index → ⊥).
        subst (IsLastOf hashes (length last) (bucket_of other (length last)) k) (sym (get_or-set_other earlier index k place 0 apart)) (filed.chained.each k other (omega (arith, below, apart)) there))
        (cases_eq k index);
  }

  newest : IsLastOf hashes (length last) b (index + 1) (index + 1)
  newest = record {
    within = omega arith;
    own = λ k other next there. ap (λ (n : ℕ). bucket_of n (length last)) (same_hash_at k other (omega (arith, next)) there) ∙ sym own;
    rest = λ k other below there same. below;
  }

  one_head : (c : ℕ) → c < length last → IsLastOf hashes (length last) c (index + 1) (get_or (set last b (index + 1)) c 0)
  one_head c inside =
      ⊎_elim
      (λ (here : c ≡ b).
      let now : get_or (set last b (index + 1)) c 0 ≡ index + 1 = ap (λ (n : ℕ). get_or (set last b (index + 1)) n 0) here ∙ get_or-set_same last b (index + 1) 0 within in
      subst (λ (x : ℕ × ℕ). IsLastOf hashes (length last) x.0 (index + 1) x.1) (λ i. (sym here i, sym now i)) newest)
      (λ (apart : c ≡ b → ⊥).
      let was = filed.heads c inside in
      subst (IsLastOf hashes (length last) c (index + 1)) (sym (get_or-set_other last b c (index + 1) 0 apart)) (record {
        within = let inner = was.within in omega (arith, inner);
        own = was.own;
        rest = λ k other below there same.
            ⊎_elim
            (λ (here : k ≡ index). absurd (apart (sym same ∙ (ap (λ (n : ℕ). bucket_of n (length last)) (same_hash_at k other here there) ∙ sym own))))
            (λ (before : k ≡ index → ⊥). was.rest k other (omega (arith, below, before)) there same)
            (cases_eq k index);
      }))
      (cases_eq c b)

  pub filed_one : AreFiledBelow hashes (set earlier index place) (set last b (index + 1)) (index + 1)
  filed_one = record {
    some = let some = filed.some in omega (arith, some, same_count);
    chained = subst (λ (n : ℕ). AreChained hashes (set earlier index place) n (index + 1)) (sym same_count) one_chained;
    heads = λ c inside.
        subst (λ (n : ℕ). IsLastOf hashes n c (index + 1) (get_or (set last b (index + 1)) c 0)) (sym same_count)
        (one_head c (omega (arith, inside, same_count)));
  }

-- ---- no hash is filed
