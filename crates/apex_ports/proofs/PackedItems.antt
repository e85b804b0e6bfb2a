-- Items are written one behind another, and read back in place of others.
use Rattle.apex_ports.proofs.Common.{◌≡◌, ◌≢◌, ⊎_elim, ℕ, zero, suc, ◌+◌, ◌^◌, ◌<◌, ◌≤◌, List, [], ◌∷◌, ◌++◌, length, take, drop, set, Some, refl, sym, ap, ◌∙◌, subst, arith, append_assoc, append-nil, length-append, length-set, slice_get, slice_get_within, get_or_from_slice_get, take_more, messages, Messages, AreShort, EachOf, Reads}
use Rattle.std.proofs.Common.{add-one, Result, Ok, Err, OnOk, is_ok, if◌then◌else◌}
use Rattle.std.proofs.Math.Seq.{drop-cons}
use Rattle.std.specs.List.{flat_map}
use Rattle.apex_types.specs.declared.message.TheConstants.{MESSAGE_LIMIT}
use Rattle.std.specs.Int.{w16, w32, w64, from_le_bytes, to_le_bytes}
use Rattle.std.proofs.lemmas.Bool.{cases_eq}
use Rattle.std.proofs.lemmas.Grind.{flat_map-append}
use Rattle.std.proofs.lemmas.List.{drop_all}
use Rattle.std.proofs.lemmas.Nat.{from_le_bytes-to_le_bytes_2, from_le_bytes-to_le_bytes_4, from_le_bytes-to_le_bytes_8}
use Rattle.apex_ports.specs.Packed.{packed_number, packed_count, packed_length, packed_message}
use Rattle.apex_ports.proofs.Stays.{slice_get-set_cases}

-- ---- numbers

-- the number is that of the first bytes, and the others are left
pub record IsNumberRead (width : ℕ) (number : List ℕ → ℕ) (n : ℕ) (before rest : List ℕ) : Type 0 where
  pub long : width ≤ length before
  pub is : number (take width before) ≡ n
  pub left : drop width before ≡ rest

pub number_back : (n : ℕ) (before rest : List ℕ) → n < 2 ^ 64 → before ≡ packed_number n ++ rest → IsNumberRead 8 (from_le_bytes w64) n before rest
unfolding packed_number
number_back n before rest small e = record {
  long = let long = ap (λ (x : List ℕ). length x) e in omega (arith, long, length-append (to_le_bytes w64 n) rest);
  is = ap (λ (x : List ℕ). from_le_bytes w64 (take 8 x)) e ∙ from_le_bytes-to_le_bytes_8 n small;
  left = ap (λ (x : List ℕ). drop 8 x) e;
}

pub count_back : (n : ℕ) (before rest : List ℕ) → n < 2 ^ 32 → before ≡ packed_count n ++ rest → IsNumberRead 4 (from_le_bytes w32) n before rest
unfolding packed_count
count_back n before rest small e = record {
  long = let long = ap (λ (x : List ℕ). length x) e in omega (arith, long, length-append (to_le_bytes w32 n) rest);
  is = ap (λ (x : List ℕ). from_le_bytes w32 (take 4 x)) e ∙ from_le_bytes-to_le_bytes_4 n small;
  left = ap (λ (x : List ℕ). drop 4 x) e;
}

pub length_back : (n : ℕ) (before rest : List ℕ) → n < 2 ^ 16 → before ≡ packed_length n ++ rest → IsNumberRead 2 (from_le_bytes w16) n before rest
unfolding packed_length
length_back n before rest small e = record {
  long = let long = ap (λ (x : List ℕ). length x) e in omega (arith, long, length-append (to_le_bytes w16 n) rest);
  is = ap (λ (x : List ℕ). from_le_bytes w16 (take 2 x)) e ∙ from_le_bytes-to_le_bytes_2 n small;
  left = ap (λ (x : List ℕ). drop 2 x) e;
}

-- ---- lists

-- below the length there is an item
pub item_at : {X : Type 0} (xs : List X) (k : ℕ) → k < length xs → (x : X) × (slice_get xs k ≡ Some x)
item_at [] k within = absurd (omega arith)
item_at (x ∷ xs) zero within = (x, refl)
item_at (x ∷ xs) (suc k) within = item_at xs k (omega arith)

-- what holds for each item of a list, paired with another list of the same length
pub each_along : {X Y : Type 0} (P : ℕ → X → Type 0) (Q : ℕ → Y → Type 0) (R : X → Y → Type 0) (xs : List X) (ys : List Y) → EachOf R xs ys
    → ((k : ℕ) (x : X) → slice_get xs k ≡ Some x → P k x) → ((k : ℕ) (x : X) (y : Y) → P k x → R x y → Q k y) → (k : ℕ) (y : Y) → slice_get ys k ≡ Some y → Q k y
each_along P Q R xs ys pairs each goes k y at =
    let within = slice_get_within ys k y at in
    let count = pairs.count in
    let from = item_at xs k (omega (arith, within, count)) in
    goes k from.0 y (each k from.0 from.1) (pairs.each k from.0 y from.1 at)

-- lists of the same items are the same
pub same_items : {X : Type 0} (xs ys : List X) → EachOf (λ x y. y ≡ x) xs ys → ys ≡ xs
same_items [] [] pairs = refl
same_items [] (y ∷ ys) pairs = absurd (let count = pairs.count in omega (arith, count))
same_items (x ∷ xs) [] pairs = absurd (let count = pairs.count in omega (arith, count))
same_items {X} (x ∷ xs) (y ∷ ys) pairs =
    let rest : ys ≡ xs = same_items xs ys (record { count = let count = pairs.count in omega (arith, count); each = λ k u v at listed. pairs.each (suc k) u v at listed }) in
    let first : y ≡ x = pairs.each zero x y refl refl in
    λ i. first i ∷ rest i

pub taken_more : {X : Type 0} (xs : List X) (i : ℕ) (x : X) → slice_get xs i ≡ Some x → take (i + 1) xs ≡ take i xs ++ x ∷ []
taken_more xs i x at = take_more xs i x (slice_get_within xs i x at) ∙ ap (λ y. take i xs ++ y ∷ []) (get_or_from_slice_get xs i x x at)

drop_at : {X : Type 0} (xs : List X) (n : ℕ) (x : X) → slice_get xs n ≡ Some x → drop n xs ≡ x ∷ drop (n + 1) xs
drop_at xs n x at =
    drop-cons xs n x (slice_get_within xs n x at)
    ∙ (ap (λ y. y ∷ drop (suc n) xs) (get_or_from_slice_get xs n x x at) ∙ ap (λ (m : ℕ). x ∷ drop m xs) (sym (add-one n)))

-- ---- writing

-- bytes are appended if memory doesn't run out
pub ok_appended : {T E : Type 0} (r : Result T E) (start now more new : List ℕ) → start ≡ now → new ≡ (if is_ok r then start ++ more else start) → OnOk r (new ≡ now ++ more)
ok_appended (Ok x) start now more new same e = e ∙ ap (λ l. l ++ more) same
ok_appended (Err x) start now more new same e = tt

-- one more item is written
pub one_written : {X : Type 0} (packed : X → List ℕ) (xs : List X) (i : ℕ) (x : X) (start now new : List ℕ) → slice_get xs i ≡ Some x → now ≡ start ++ flat_map packed (take i xs) → new ≡ now ++ packed x
    → new ≡ start ++ flat_map packed (take (i + 1) xs)
one_written packed xs i x start now new at was wrote =
    let more : flat_map packed (take (i + 1) xs) ≡ flat_map packed (take i xs) ++ packed x =
    ap (flat_map packed) (taken_more xs i x at) ∙ (flat_map-append packed (take i xs) (x ∷ []) ∙ ap (λ l. flat_map packed (take i xs) ++ l) (append-nil (packed x))) in
    wrote ∙ (ap (λ l. l ++ packed x) was ∙ (append_assoc start (flat_map packed (take i xs)) (packed x) ∙ ap (λ l. start ++ l) (sym more)))

-- what holds for the items below an index
abbrev pub EachBelow : {X : Type 0} → ℕ → (X → Type 0) → List X → Type 0
EachBelow {X} n P xs = (k : ℕ) (x : X) → k < n → slice_get xs k ≡ Some x → P x

pub below_one_more : {X : Type 0} (P : X → Type 0) (xs : List X) (n : ℕ) (x : X) → slice_get xs n ≡ Some x → P x → EachBelow n P xs → EachBelow (n + 1) P xs
below_one_more P xs n x here mine each k y below at =
    ⊎_elim
    (λ (same : k ≡ n).
    let both : Some x ≡ Some y = sym here ∙ (ap (λ (m : ℕ). slice_get xs m) (sym same) ∙ at) in
    let is : x ≡ y = cc in
    subst P is mine)
    (λ (other : k ≡ n → ⊥). each k y (omega (arith, below, other)) at)
    (cases_eq k n)

-- ---- reading

abbrev pub IsAny : {X Y : Type 0} → X → Y → Type 0
IsAny x y = Unit {0}

-- one item is read, and others are left
pub first_left : {X : Type 0} (packed : X → List ℕ) (xs : List X) (n : ℕ) (x : X) (before rest : List ℕ) → slice_get xs n ≡ Some x → before ≡ flat_map packed (drop n xs) ++ rest
    → before ≡ packed x ++ (flat_map packed (drop (n + 1) xs) ++ rest)
first_left packed xs n x before rest at e =
    e ∙ (ap (λ l. flat_map packed l ++ rest) (drop_at xs n x at) ∙ append_assoc (packed x) (flat_map packed (drop (n + 1) xs)) rest)

-- the first n items are read in place of the old ones, and the others are unchanged
pub record AreReading {X : Type 0} (packed : X → List ℕ) (Fits IsRead : X → X → Type 0) (old : List X) (before : List ℕ) (n : ℕ) (now : List X) (after : List ℕ) : Type 0 where
  pub count : length now ≡ length old
  pub others : (k : ℕ) (x : X) → n ≤ k → slice_get now k ≡ Some x → slice_get old k ≡ Some x
  pub done : (saved : List X) (rest : List ℕ) → EachOf Fits old saved → before ≡ flat_map packed saved ++ rest
      → ((k : ℕ) (s x : X) → k < n → slice_get saved k ≡ Some s → slice_get now k ≡ Some x → IsRead s x) × (after ≡ flat_map packed (drop n saved) ++ rest)

module _ {X : Type 0} (packed : X → List ℕ) (Fits IsRead : X → X → Type 0) (old : List X) (before : List ℕ) where
  pub none_read : AreReading packed Fits IsRead old before 0 old before
  none_read = record { count = refl; others = λ k x from at. at; done = λ saved rest fit e. ((λ k s x below listed at. absurd (omega arith)), e) }

  pub one_read : (n : ℕ) (now : List X) (after : List ℕ) (x new : X) (later : List ℕ) → AreReading packed Fits IsRead old before n now after → slice_get now n ≡ Some x
      → Reads packed (Fits x) (λ s. IsRead s new) after later → AreReading packed Fits IsRead old before (n + 1) (set now n new) later
  one_read n now after x new later was here reads = record {
    count = length-set now n new ∙ was.count;
    others = λ k y from at.
        ⊎_elim
        (λ (same : (k ≡ n) × (y ≡ new)). absurd (omega (arith, from, same.0)))
        (λ (apart : (k ≢ n) × (slice_get now k ≡ Some y)). was.others k y (omega arith) apart.1)
        (slice_get-set_cases now n new k y at);
    done = λ saved rest fit e.
        let so_far = was.done saved rest fit e in
        let inside = slice_get_within now n x here in
        let count = was.count in
        let count_too = fit.count in
        let item = item_at saved n (omega (arith, inside, count, count_too)) in
        let got = reads item.0 (flat_map packed (drop (n + 1) saved) ++ rest) (fit.each n x item.0 (was.others n x (omega arith) here) item.1) (first_left packed saved n item.0 after rest item.1 so_far.1) in (
          (λ k s y below listed at.
              ⊎_elim
              (λ (same : (k ≡ n) × (y ≡ new)).
              let both : Some item.0 ≡ Some s = sym item.1 ∙ (ap (λ (m : ℕ). slice_get saved m) (sym same.0) ∙ listed) in
              let is : item.0 ≡ s = cc in
              subst (λ (p : X × X). IsRead p.0 p.1) (λ i. (is i, sym same.1 i)) got.0)
              (λ (apart : (k ≢ n) × (slice_get now k ≡ Some y)).
              let other = apart.0 in
              so_far.0 k s y (by_index k below other) listed apart.1)
              (slice_get-set_cases now n new k y at)),
          got.1,
        );
  }
    where
      by_index : (k : ℕ) → k < n + 1 → k ≢ n → k < n
      by_index k below apart = ⊎_elim (λ (same : k ≡ n). absurd (apart same)) (λ (other_index : k ≡ n → ⊥). omega (arith, below, other_index)) (cases_eq k n)

  pub all_read : (n : ℕ) (now : List X) (after : List ℕ) → length old ≤ n → AreReading packed Fits IsRead old before n now after
      → Reads (flat_map packed) (EachOf Fits old) (λ saved. EachOf IsRead saved now) before after
  all_read n now after long was saved rest fit e =
      let so_far = was.done saved rest fit e in
      let count = was.count in
      let count_too = fit.count in
      let none : drop n saved ≡ [] = drop_all n saved (omega (arith, long, count_too)) in (
        record {
          count = count ∙ sym count_too;
          each = λ k s x listed at. so_far.0 k s x (let inside = slice_get_within now k x at in omega (arith, inside, count, long)) listed at;
        },
        so_far.1 ∙ ap (λ l. flat_map packed l ++ rest) none,
      )

-- ---- messages

-- the first n messages are read behind none
pub record AreMessagesRead (capacity size count : ℕ) (before : List ℕ) (n : ℕ) (waiting : Messages) (after : List ℕ) : Type 0 where
  pub done : (saved : List (List ℕ)) (rest : List ℕ) → length saved ≡ count → length saved ≤ capacity → AreShort size saved → size ≤ MESSAGE_LIMIT → before ≡ flat_map packed_message saved ++ rest
      → (waiting ≡ messages (take n saved) capacity size) × (after ≡ flat_map packed_message (drop n saved) ++ rest)
