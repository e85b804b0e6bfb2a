-- The values of an array, and the keys of a table, as their data.
use Rattle.apex_config.proofs.Common.{◌≡◌, ℕ, suc, List, [], ◌∷◌, ◌++◌, map, string_bytes, String, Global, refl, ap, keys_of, Data, view, items_view, members_view, Place, at_each, list_of, keys_of_table}
use Rattle.toml.specs.declared.value.Value.{Value}

pub at_views : (find : ℕ → Data → List Place) (n : ℕ) (values : List Value) → at_each (λ i value. find i (view value)) n values ≡ at_each find n (list_of (items_view values))
at_views find n [] = refl
at_views find n (v ∷ vs) = ap (λ (rest : List Place). find n (view v) ++ rest) (at_views find (suc n) vs)

pub map_views : {X : Type 0} (f : Data → X) (values : List Value) → map (λ value. f (view value)) values ≡ map f (list_of (items_view values))
map_views f [] = refl
map_views f (v ∷ vs) = ap (λ rest. f (view v) ∷ rest) (map_views f vs)

pub at_keys : (find : ℕ → List ℕ → List Place) (n : ℕ) (es : List (String Global × Value)) → at_each (λ i key. find i (string_bytes key)) n (keys_of es) ≡ at_each find n (keys_of_table (members_view es))
at_keys find n [] = refl
at_keys find n (e ∷ es) = ap (λ (rest : List Place). find n (string_bytes e.0) ++ rest) (at_keys find (suc n) es)
