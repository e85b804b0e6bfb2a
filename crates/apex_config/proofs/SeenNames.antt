-- Names that are met one after the other.
use Rattle.apex_config.proofs.Common.{◌≡◌, ℕ, ◌+◌, ◌<◌, Bool, true, false, cond, ◌||◌, List, length, take, get_or, refl, sym, ap, ◌∙◌, list_any, bytes_eq}
use Rattle.std.proofs.lemmas.List.Folds.{list_any_more}

pub seen_at : (names : List (List ℕ)) (i : ℕ) (name other : List ℕ) → i < length names → get_or names i name ≡ name
    → cond (bytes_eq name other) true (list_any (λ n. bytes_eq n other) (take i names)) ≡ list_any (λ n. bytes_eq n other) (take (i + 1) names)
seen_at names i name other inside is =
    let more : list_any (λ n. bytes_eq n other) (take (i + 1) names) ≡ (list_any (λ n. bytes_eq n other) (take i names) || bytes_eq name other) =
    list_any_more (λ n. bytes_eq n other) names i name inside ∙ ap (λ (x : List ℕ). list_any (λ n. bytes_eq n other) (take i names) || bytes_eq x other) is in
    exchanged (bytes_eq name other) (list_any (λ n. bytes_eq n other) (take i names)) ∙ sym more
  where
    exchanged : (a b : Bool) → cond a true b ≡ (b || a)
    exchanged true true = refl
    exchanged true false = refl
    exchanged false true = refl
    exchanged false false = refl
