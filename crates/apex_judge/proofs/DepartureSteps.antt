-- The departures of a log, entry by entry.
use Rattle.apex_judge.proofs.Common.{◌≡◌, ℕ, zero, suc, List, [], ◌∷◌, ◌++◌, length, take, drop, Option, Some, refl, sym, ap, ◌∙◌, append_assoc, slice_get, Configuration, Entry, History, Expected, instead_of, departure_at, departures_after, departures_of}
use Rattle.apex_judge.specs.declared.departure.Departure.{Departure}

-- a log is the entries before an index, the entry there, and the rest
pub parts_at : (log : History) (k : ℕ) (e : Entry) → slice_get log k ≡ Some e → (drop k log ≡ e ∷ drop (suc k) log) × (take (suc k) log ≡ take k log ++ e ∷ []) × (length (take k log) ≡ k)
parts_at [] k e at = absurd (cc)
parts_at (x ∷ log) zero e at = let same : x ≡ e = cc in (ap (λ y. y ∷ log) same, ap (λ y. y ∷ []) same, refl)
parts_at (x ∷ log) (suc k) e at = let rest = parts_at log k e at in (rest.0, ap (λ ys. x ∷ ys) rest.1, ap suc rest.2)

-- one entry more is judged
pub judged_on : (config : Configuration) (log : History) (k : ℕ) (e : Entry) (found new : List Departure) (instead : Option Expected) → slice_get log k ≡ Some e
    → found ++ departures_after config (take k log) (drop k log) ≡ departures_of config log
    → instead ≡ instead_of config (take k log) e → new ≡ found ++ departure_at k instead
    → new ++ departures_after config (take (suc k) log) (drop (suc k) log) ≡ departures_of config log
judged_on config log k e found new instead here was instead_is new_is =
    let parts = parts_at log k e here in
    let after = departures_after config (take (suc k) log) (drop (suc k) log) in
    let first : departures_after config (take k log) (drop k log) ≡ departures_after config (take k log) (e ∷ drop (suc k) log) =
    ap (λ (rest : History). departures_after config (take k log) rest) parts.0 in
    let then : departures_after config (take k log) (e ∷ drop (suc k) log) ≡ departure_at k instead ++ after =
    λ i. departure_at (parts.2 i) (sym instead_is i) ++ departures_after config (sym parts.1 i) (drop (suc k) log) in
    ap (λ (ds : List Departure). ds ++ after) new_is ∙ (append_assoc found (departure_at k instead) after ∙ (ap (λ (ds : List Departure). found ++ ds) (sym (first ∙ then)) ∙ was))
