-- The items of an array and the keys of a table, as their data.
use Rattle.std.proofs.Common.{◌≡◌, ℕ, List, [], ◌∷◌, map, Option, Some, None, option_map, Bor, String, Global, string_bytes, refl, sym, ap, ◌∙◌}
use Rattle.std.specs.Prelude.{slice_get}
use Rattle.std.specs.Map.{keys_of}
use Rattle.std.proofs.lemmas.Option.{slice_get-map}
use Rattle.toml.specs.Data.{Data}
use Rattle.toml.specs.View.{view, items_view, members_view}
use Rattle.toml.specs.declared.value.Value.{Value}
use Rattle.apex_config.specs.Values.{list_of, keys_of_table}

-- what a function reads through a reference
pub read_through : {A B : Type 0} (f : A → B) (o : Option (Bor A)) → option_map (λ (x : Bor A). f x.now) o ≡ option_map f (option_map (λ (x : Bor A). x.now) o)
read_through f None = refl
read_through f (Some x) = refl

pub list_of_views : (values : List Value) → map view values ≡ list_of (items_view values)
list_of_views [] = refl
list_of_views (v ∷ vs) = ap (λ (rest : List Data). view v ∷ rest) (list_of_views vs)

keys_of_members : (es : List (String Global × Value)) → map (λ (key : String Global). string_bytes key) (keys_of es) ≡ keys_of_table (members_view es)
keys_of_members [] = refl
keys_of_members (e ∷ es) = ap (λ (rest : List (List ℕ)). string_bytes e.0 ∷ rest) (keys_of_members es)

pub item_seen : (values : List Value) (i : ℕ) (o : Option (Bor Value)) → option_map (λ (x : Bor Value). x.now) o ≡ slice_get values i
    → option_map (λ (x : Bor Value). view x.now) o ≡ slice_get (list_of (items_view values)) i
item_seen values i o here =
    read_through view o ∙ ap (option_map view) here ∙ sym (slice_get-map view values i) ∙ ap (λ (items : List Data). slice_get items i) (list_of_views values)

pub key_seen : (es : List (String Global × Value)) (i : ℕ) (o : Option (Bor (String Global))) → option_map (λ (x : Bor (String Global)). x.now) o ≡ slice_get (keys_of es) i
    → option_map (λ (x : Bor (String Global)). string_bytes x.now) o ≡ slice_get (keys_of_table (members_view es)) i
key_seen es i o here =
    let f : String Global → List ℕ = λ key. string_bytes key in
    read_through f o ∙ ap (option_map f) here ∙ sym (slice_get-map f (keys_of es) i) ∙ ap (λ (keys : List (List ℕ)). slice_get keys i) (keys_of_members es)
