-- The room of the journals with one of them set.
use Rattle.apex_board.proofs.Common.{◌≡◌, ℕ, ◌+◌, ◌<◌, ◌≤◌, ◌==◌, Bool, true, false, if◌then◌else◌, List, length, set, Option, Some, refl, sym, ◌∙◌, subst, arith, vec_len, vec_capacity, nat_tests, Journal, journal_at, HasRoomAt, KeepsRoom, KeepsAllButOne}
use Rattle.apex_board.proofs.JournalSteps.{journal_at-set}

module _ {A : Type 0} (journals : List (Option (Journal A))) (c : ℕ) (old new : Journal A) where
  -- what the room at an index becomes
  room_set : c < length journals → journal_at journals c ≡ Some old → (more less : ℕ) → less ≤ more
      → ((n : ℕ) → vec_len old.accepted + (n + more) ≤ vec_capacity old.accepted → vec_len new.accepted + (n + less) ≤ vec_capacity new.accepted)
      → (n k : ℕ) → HasRoomAt (n + more) k journals → HasRoomAt (n + less) k (set journals c (Some new))
  room_set within here more less fewer changed n k room journal at = by_index (k == c) refl (sym (journal_at-set journals c (Some new) within k) ∙ at)
    where
      by_index : (b : Bool) → (k == c) ≡ b → (if b then Some new else journal_at journals k) ≡ Some journal → vec_len journal.accepted + (n + less) ≤ vec_capacity journal.accepted
      by_index true is found =
          let same : new ≡ journal = cc in
          let index : k ≡ c = grind (arith, nat_tests) in
          let was : journal_at journals k ≡ Some old = (λ i. journal_at journals (index i)) ∙ here in
          subst (λ (j : Journal A). vec_len j.accepted + (n + less) ≤ vec_capacity j.accepted) same (changed n (room old was))
      by_index false is found = let enough = room journal found in omega arith

  plain : (n k : ℕ) → HasRoomAt (n + 0) k (set journals c (Some new)) → HasRoomAt n k (set journals c (Some new))
  plain n k room journal at = let enough = room journal at in omega arith

  pub accept_room : c < length journals → journal_at journals c ≡ Some old → vec_len new.accepted ≡ vec_len old.accepted + 1 → vec_capacity new.accepted ≡ vec_capacity old.accepted → KeepsAllButOne journals (set journals c (Some new))
  accept_room within here len capacity n k room = plain n k (room_set within here 1 0 (omega arith) (λ m had. omega arith) n k room)

  pub kept_room : c < length journals → journal_at journals c ≡ Some old → vec_len new.accepted ≡ vec_len old.accepted → vec_capacity old.accepted ≤ vec_capacity new.accepted → KeepsRoom journals (set journals c (Some new))
  kept_room within here len capacity n k room =
      plain n k (room_set within here 0 0 (omega arith) (λ m had. omega arith) n k (λ journal at. let enough = room journal at in omega arith))

  -- the room at the index that is set
  pub room_here : c < length journals → (n : ℕ) → vec_len new.accepted + n ≤ vec_capacity new.accepted → HasRoomAt n c (set journals c (Some new))
  room_here within n room journal at = by_index (c == c) refl (sym (journal_at-set journals c (Some new) within c) ∙ at)
    where
      by_index : (b : Bool) → (c == c) ≡ b → (if b then Some new else journal_at journals c) ≡ Some journal → vec_len journal.accepted + n ≤ vec_capacity journal.accepted
      by_index true is found = let same : new ≡ journal = cc in subst (λ (j : Journal A). vec_len j.accepted + n ≤ vec_capacity j.accepted) same room
      by_index false is found = absurd (grind (arith, nat_tests))

pub same_room : {A : Type 0} (journals : List (Option (Journal A))) → KeepsRoom journals journals
same_room journals n k room = room
