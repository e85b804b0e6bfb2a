-- A ring of messages stays one, and the slots of the messages that wait keep their bytes.
use Rattle.apex_ports.proofs.Common.{◌≡◌, ◌≢◌, inl, inr, ℕ, zero, suc, ◌+◌, ◌-◌, ◌*◌, ◌<◌, ◌≤◌, ◌==◌, true, false, Bool, if◌then◌else◌, List, [], ◌∷◌, ◌++◌, length, take, drop, map, Some, refl, sym, ap, ◌∙◌, subst, arith, rules, length-append, length-take, slice_get, nat_tests, drop-take, map-append, slice_get_within, below_or_not, slice_get-drop, message_at, messages_at, with_message, AreShort, IsPlaced, IsRing}
use Rattle.std.proofs.Common.{length-drop}
use Rattle.std.proofs.Math.Nat.{mul-le-mul_right}
use Rattle.std.proofs.lemmas.Slice.{take-put_mid_below, drop-put_mid, between-put_mid, overwrites}
use Rattle.apex_ports.specs.declared.message_ring.Place.{Place}
use Rattle.apex_ports.proofs.Stays.{each_at_push}

-- ---- bytes

module _ (slots : List ℕ) (start : ℕ) (m : List ℕ) (fits : start + length m ≤ length slots) where
  pub length-with_message : length (with_message slots start m) ≡ length slots
  length-with_message = search (rules, overwrites)

  -- the message is written there
  pub written_there : take (length m) (drop start (with_message slots start m)) ≡ m
  written_there =
      let count : length m ≡ start + length m - start = omega arith in
      ap (λ (n : ℕ). take n (drop start (with_message slots start m))) count
      ∙ between-put_mid start (length m) slots m (start + length m) (omega arith) count

  -- the bytes before it are unchanged
  pub same_before : (from n : ℕ) → from + n ≤ start → take n (drop from (with_message slots start m)) ≡ take n (drop from slots)
  same_before from n before =
      sym (drop-take from n (with_message slots start m))
      ∙ (ap (λ (xs : List ℕ). drop from xs) (take-put_mid_below start (length m) slots m (from + n) before (omega arith)) ∙ drop-take from n slots)

  -- the bytes after it are unchanged
  pub same_behind : (from n : ℕ) → start + length m ≤ from → take n (drop from (with_message slots start m)) ≡ take n (drop from slots)
  same_behind from n behind = ap (λ (xs : List ℕ). take n xs) (drop-put_mid start (length m) slots m from behind (omega arith) refl)

-- ---- places

-- the slot after another; the first slot follows the last
abbrev pub slot_behind : ℕ → ℕ → ℕ
slot_behind slot depth = if slot + 1 == depth then 0 else slot + 1

abbrev pub place_of : ℕ → List ℕ → Place
place_of slot m = record { slot = slot; length = length m }

-- a list is mapped alike by functions that agree on its items
map_same : {X Y : Type 0} (f g : X → Y) (xs : List X) → ((k : ℕ) (x : X) → slice_get xs k ≡ Some x → f x ≡ g x) → map f xs ≡ map g xs
map_same f g [] same = refl
map_same f g (x ∷ xs) same = λ i. same 0 x refl i ∷ map_same f g xs (λ k y at. same (suc k) y at) i

-- one more slot is filled
one_more : (depth size next steps : ℕ) (place : Place) → next < depth → 0 < steps → steps < depth → IsPlaced depth size next steps place
    → IsPlaced depth size (slot_behind next depth) (steps + 1) place
one_more depth size next steps place within some few is = by_test (next + 1 == depth) refl
  where
    apart : next ≤ place.slot → next < place.slot
    apart above = let round = is.above above in omega (arith, round, few, above)

    by_test : (b : Bool) → (next + 1 == depth) ≡ b → IsPlaced depth size (if b then 0 else next + 1) (steps + 1) place
    by_test true test =
        let last : next + 1 ≡ depth = grind (arith, nat_tests) in
        let inside = is.within in
        record {
          short = is.short;
          within = is.within;
          below = λ below. absurd (omega (arith, below));
          above = λ _. elim (below_or_not place.slot next) [
            | inl below ↦ let behind = is.below below in omega (arith, behind, last)
            | inr above ↦ let more = apart above in absurd (omega (arith, more, last, inside))
          ];
        }
    by_test false test =
        let more : next + 1 ≢ depth = grind (arith, nat_tests) in
        record {
          short = is.short;
          within = is.within;
          below = λ below. elim (below_or_not place.slot next) [
            | inl under ↦ let behind = is.below under in omega (arith, behind)
            | inr above ↦ let over = apart above in absurd (omega (arith, over, below))
          ];
          above = λ above. let round = is.above (omega (arith, above)) in omega (arith, round);
        }

-- the filled slot is the newest one
filled : (depth size next : ℕ) (m : List ℕ) → next < depth → length m ≤ size → IsPlaced depth size (slot_behind next depth) 1 (place_of next m)
filled depth size next m within short = by_test (next + 1 == depth) refl
  where
    by_test : (b : Bool) → (next + 1 == depth) ≡ b → IsPlaced depth size (if b then 0 else next + 1) 1 (place_of next m)
    by_test true test =
        let last : next + 1 ≡ depth = grind (arith, nat_tests) in
        record { short = short; within = within; below = λ below. absurd (omega (arith, below)); above = λ _. omega (arith, last) }
    by_test false test = record { short = short; within = within; below = λ _. refl; above = λ above. absurd (omega (arith, above)) }

slot_within : (depth next : ℕ) → next < depth → slot_behind next depth < depth
slot_within depth next within = by_test (next + 1 == depth) refl
  where
    by_test : (b : Bool) → (next + 1 == depth) ≡ b → (if b then 0 else next + 1) < depth
    by_test true test = omega arith
    by_test false test = let more : next + 1 ≢ depth = grind (arith, nat_tests) in omega arith

-- an item of a mapped list
mapped : {X Y : Type 0} (f : X → Y) (xs : List X) (k : ℕ) (y : Y) → slice_get (map f xs) k ≡ Some y → (x : X) × (slice_get xs k ≡ Some x) × (f x ≡ y)
mapped f [] k y at = absurd (cc)
mapped f (x ∷ xs) zero y at = (x, refl, cc)
mapped f (x ∷ xs) (suc k) y at = mapped f xs k y at

-- no message is longer than the size
pub ring-short : (depth size next : ℕ) (slots : List ℕ) (places : List Place) → IsRing depth size next slots places → AreShort size (messages_at size slots places)
ring-short depth size next slots places is k m at =
    let from = mapped (message_at size slots) places k m at in
    let few = (is.placed k from.0 from.1).short in
    let count = ap length from.2 in
    omega (arith, few, count, length-take from.0.length (drop (from.0.slot * size) slots))

-- the oldest place is removed
pub ring-popped : (depth size next : ℕ) (slots : List ℕ) (places : List Place) → IsRing depth size next slots places → IsRing depth size next slots (drop 1 places)
ring-popped depth size next slots places is = record {
  small = is.small;
  wide = is.wide;
  room = is.room;
  next_slot = is.next_slot;
  placed = λ k place at.
      let there : slice_get places (k + 1) ≡ Some place = sym (slice_get-drop 1 places k (k + 1) (omega arith)) ∙ at in
      let steps : length places - (k + 1) ≡ length (drop 1 places) - k = omega (arith, length-drop 1 places) in
      subst (λ (n : ℕ). IsPlaced depth size next n place) steps (is.placed (k + 1) place there);
}

module _ (depth size next : ℕ) (slots : List ℕ) (places : List Place) (m : List ℕ) (is : IsRing depth size next slots places) (free : length places < depth) (short : length m ≤ size) where
  slot : next < depth
  slot = is.next_slot (omega arith)

  pub fits : next * size + length m ≤ length slots
  fits =
      let whole = mul-le-mul_right size slot in
      let room = is.room in
      omega (arith, whole, room, short)

  pub ring-pushed : IsRing depth size (slot_behind next depth) (with_message slots (next * size) m) (places ++ place_of next m ∷ [])
  ring-pushed = record {
    small = is.small;
    wide = is.wide;
    room = length-with_message slots (next * size) m fits ∙ is.room;
    next_slot = λ _. slot_within depth next slot;
    placed = λ k place at.
        let count : length places + 1 - k ≡ length (places ++ place_of next m ∷ []) - k = omega (arith, length-append places (place_of next m ∷ [])) in
        subst (λ (n : ℕ). IsPlaced depth size (slot_behind next depth) n place) count
        (each_at_push (λ (j : ℕ) (one : Place). IsPlaced depth size (slot_behind next depth) (length places + 1 - j) one) places (length places) (place_of next m) refl
        (λ j one there.
        let within = slice_get_within places j one there in
        let steps : length places - j + 1 ≡ length places + 1 - j = omega (arith, within) in
        subst (λ (n : ℕ). IsPlaced depth size (slot_behind next depth) n one) steps
        (one_more depth size next (length places - j) one slot (omega (arith, within)) (omega (arith, within, free)) (is.placed j one there)))
        (let one : 1 ≡ length places + 1 - length places = omega arith in
        subst (λ (n : ℕ). IsPlaced depth size (slot_behind next depth) n (place_of next m)) one (filled depth size next m slot short)) k place at);
  }

  -- the other messages keep their bytes
  stays : (k : ℕ) (place : Place) → slice_get places k ≡ Some place → message_at size (with_message slots (next * size) m) place ≡ message_at size slots place
  stays k place at =
      let there = is.placed k place at in
      let within = slice_get_within places k place at in
      elim (below_or_not place.slot next) [
        | inl below ↦
            let whole = mul-le-mul_right size (let up : place.slot + 1 ≤ next = omega (arith, below) in up) in
            let few = there.short in
            same_before slots (next * size) m fits (place.slot * size) place.length (omega (arith, whole, few))
        | inr above ↦
            let round = there.above above in
            let whole = mul-le-mul_right size (let up : next + 1 ≤ place.slot = omega (arith, round, within, free) in up) in
            same_behind slots (next * size) m fits (place.slot * size) place.length (omega (arith, whole, short))
      ]

  pub messages-pushed : messages_at size (with_message slots (next * size) m) (places ++ place_of next m ∷ []) ≡ messages_at size slots places ++ m ∷ []
  messages-pushed =
      let new = message_at size (with_message slots (next * size) m) in
      map-append new places (place_of next m ∷ [])
      ∙ (λ i. map_same new (message_at size slots) places stays i ++ written_there slots (next * size) m fits i ∷ [])
