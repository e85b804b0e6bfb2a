-- The room is the greatest number of calls for which the log and each journal have room.
use Rattle.apex_board.proofs.Common.{◌≡◌, ℕ, zero, suc, ◌+◌, ◌-◌, ◌<◌, ◌≤◌, ◌==◌, Bool, true, false, List, [], ◌∷◌, Option, Some, None, refl, subst, arith, vec_len, vec_capacity, nat_tests, Journal, HasRoom, KeepsRoom, KeepsAllButOne, spare, room_beside, least_room, room_of}
use Rattle.apex_board.specs.declared.records.Records.{Records}

-- the journal has this room
abbrev Fits : {A : Type 0} → ℕ → Option (Journal A) → Type 0
Fits {A} n journal = (j : Journal A) → journal ≡ Some j → vec_len j.accepted + n ≤ vec_capacity j.accepted

beside_from : {A : Type 0} (journal : Option (Journal A)) (n room : ℕ) → n ≤ room → Fits n journal → n ≤ room_beside journal room
beside_from None n room enough has = enough
beside_from (Some journal) n room enough has = let fits = has journal refl in omega arith

beside_means : {A : Type 0} (journal : Option (Journal A)) (n room : ℕ) → n ≤ room_beside journal room → (n ≤ room) × Fits n journal
beside_means None n room enough = (enough, λ j is. absurd (cc))
beside_means {A} (Some journal) n room enough = (
  omega arith,
  λ j is.
      let same : journal ≡ j = cc in
      let within = journal.accepted.ok.1 in
      let fits : vec_len journal.accepted + n ≤ vec_capacity journal.accepted = omega (arith, within) in
      subst (λ (x : Journal A). vec_len x.accepted + n ≤ vec_capacity x.accepted) same fits,
)

least_from : {A : Type 0} (journals : List (Option (Journal A))) (n room : ℕ) → n ≤ room → HasRoom n journals → n ≤ least_room journals room
least_from [] n room enough each = enough
least_from (journal ∷ journals) n room enough each =
    least_from journals n (room_beside journal room) (beside_from journal n room enough (each 0)) (λ k j at. each (suc k) j at)

room_of_each : {A : Type 0} (journal : Option (Journal A)) (journals : List (Option (Journal A))) (n room : ℕ) → n ≤ room_beside journal room → HasRoom n journals → HasRoom n (journal ∷ journals)
room_of_each journal journals n room beside rest zero j at = (beside_means journal n room beside).1 j at
room_of_each journal journals n room beside rest (suc k) j at = rest k j at

least_means : {A : Type 0} (journals : List (Option (Journal A))) (n room : ℕ) → n ≤ least_room journals room → (n ≤ room) × HasRoom n journals
least_means [] n room enough = (enough, λ k j at. absurd (cc))
least_means (journal ∷ journals) n room enough =
    let rest = least_means journals n (room_beside journal room) enough in
    ((beside_means journal n room rest.0).0, room_of_each journal journals n room rest.0 rest.1)

-- if there is room for n calls, the log and each journal have it
pub room_means : {A : Type 0} (records : Records A) (n : ℕ) → n ≤ room_of records → (vec_len records.log + n ≤ vec_capacity records.log) × HasRoom n records.journals.items
room_means records n enough =
    let both = least_means records.journals.items n (spare records.log) enough in
    let within = records.log.ok.1 in
    let entries = both.0 in
    (omega (arith, within), both.1)

-- if the log and each journal have room for n calls, there is room for n calls
pub room_from : {A : Type 0} (records : Records A) (n : ℕ) → vec_len records.log + n ≤ vec_capacity records.log → HasRoom n records.journals.items → n ≤ room_of records
room_from records n entries each = least_from records.journals.items n (spare records.log) (omega arith) each

pub room_kept : {A : Type 0} (old new : Records A) → spare old.log ≤ spare new.log → KeepsRoom old.journals.items new.journals.items → room_of old ≤ room_of new
room_kept old new entries keeps =
    let n = room_of old in
    let had = room_means old n (omega arith) in
    let fits = had.0 in
    let within = old.log.ok.1 in
    let within' = new.log.ok.1 in
    least_from new.journals.items n (spare new.log) (omega (arith, within, within')) (λ c. keeps n c (had.1 c))

pub room_used : {A : Type 0} (old new : Records A) → spare old.log ≤ spare new.log + 1 → KeepsAllButOne old.journals.items new.journals.items → room_of old ≤ room_of new + 1
room_used old new entries keeps = by_test (room_of old == 0) refl
  where
    by_test : (b : Bool) → (room_of old == 0) ≡ b → room_of old ≤ room_of new + 1
    by_test true is = let none : room_of old ≡ 0 = grind (arith, nat_tests) in omega arith
    by_test false is =
        let some : 0 < room_of old = grind (arith, nat_tests) in
        let n = room_of old - 1 in
        let had = room_means old (n + 1) (omega arith) in
        let fits = had.0 in
        let within = old.log.ok.1 in
        let within' = new.log.ok.1 in
        let enough = least_from new.journals.items n (spare new.log) (omega (arith, within, within')) (λ c. keeps n c (had.1 c)) in
        omega (arith, enough)
