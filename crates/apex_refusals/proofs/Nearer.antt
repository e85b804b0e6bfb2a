-- The nearest of the known words that were compared so far.
use Rattle.std.proofs.Common.{◌≡◌, ◌≤◌, ◌<◌, ℕ, ◌+◌, Bool, true, false, nat_lt, cond, List, ◌∷◌, length, drop, Option, Some, None, refl, ap, ◌∙◌, arith}
use Rattle.std.specs.Prelude.{slice_get}
use Rattle.std.proofs.lemmas.Bool.Decides.{nat_tests}
use Rattle.std.proofs.lemmas.List.{at_drop_more, at_drop_all}
use Rattle.std.proofs.lemmas.Option.{slice_get_within, get_or_from_slice_get}
use Rattle.apex_refusals.specs.Nearest.{edits, most_edits, IsNearest, nearest_from}

-- this number of edits leads to the word found
abbrev pub IsFound : List ℕ → ℕ → Option (List ℕ) → Type 0
IsFound word least None = least ≡ most_edits word + 1
IsFound word least (Some found) = (edits word found ≡ least) × (least ≤ most_edits word)

-- fewer edits than to the word found are few enough for a mistyped word
pub few : (word : List ℕ) (least fewer : ℕ) (found : Option (List ℕ)) → IsFound word least found → fewer < least → fewer ≤ most_edits word
few word least fewer None is less = omega arith
few word least fewer (Some found) is less = let most = is.1 in omega arith

-- each of the first words is at least this number of edits away
abbrev pub EachBefore : ℕ → ℕ → List ℕ → List (List ℕ) → Type 0
EachBefore index least word known = (j : ℕ) (other : List ℕ) → j < index → slice_get known j ≡ Some other → least ≤ edits word other

module _ (word : List ℕ) (known : List (List ℕ)) (i least fewer : ℕ) (name : List ℕ) where
  -- one more word
  pub one_more : slice_get known i ≡ Some name → EachBefore i least word known → fewer ≤ least → fewer ≤ edits word name → EachBefore (i + 1) fewer word known
  one_more here before less this j other inside is = by_test (nat_lt j i) refl
    where
      by_test : (b : Bool) → nat_lt j i ≡ b → fewer ≤ edits word other
      by_test true lower =
          let far = before j other (grind (arith, nat_tests)) is in omega arith
      by_test false not_lower =
          let same : j ≡ i = grind (arith, nat_tests) in
          grind (arith, same, here, is, this)

-- all words were compared
pub nearest_of : (word : List ℕ) (known : List (List ℕ)) (index least : ℕ) (found : Option (List ℕ)) → length known ≤ index → IsFound word least found → EachBefore index least word known
    → IsNearest word known found
nearest_of word known index least None all is each =
    λ i other here. let far = each i other (grind (arith, slice_get_within known i other here)) here in omega arith
nearest_of word known index least (Some found) all is each =
    let near : edits word found ≤ most_edits word = grind (arith, is.0, is.1) in
    (near, λ i other here. let far = each i other (grind (arith, slice_get_within known i other here)) here in grind (arith, is.0, far))

-- ---- the same as a function of the words that are left

module _ (word : List ℕ) (known : List (List ℕ)) (i least : ℕ) (found : Option (List ℕ)) (name : List ℕ) where
  -- the next of the words
  next : slice_get known i ≡ Some name
      → nearest_from word (drop i known) least found
      ≡ cond (nat_lt (edits word name) least) (nearest_from word (drop (i + 1) known) (edits word name) (Some name)) (nearest_from word (drop (i + 1) known) least found)
  next here =
      at_drop_more (λ (rest : List (List ℕ)). nearest_from word rest least found) known i name (slice_get_within known i name here)
      ∙ ap (λ (first : List ℕ). nearest_from word (first ∷ drop (i + 1) known) least found) (get_or_from_slice_get known i name name here)

  pub taken : (fewer : ℕ) → slice_get known i ≡ Some name → fewer ≡ edits word name → fewer < least
      → nearest_from word (drop i known) least found ≡ nearest_from word (drop (i + 1) known) fewer (Some name)
  taken fewer here same less =
      let test : nat_lt (edits word name) least ≡ true = grind (arith, nat_tests, same, less) in
      rw (next here, test, same) refl

  pub passed : (more : ℕ) → slice_get known i ≡ Some name → more ≡ edits word name → least ≤ more
      → nearest_from word (drop i known) least found ≡ nearest_from word (drop (i + 1) known) least found
  passed more here same not_less =
      let test : nat_lt (edits word name) least ≡ false = grind (arith, nat_tests, same, not_less) in
      rw (next here, test) refl

-- no word is left
pub all_looked_at : (word : List ℕ) (known : List (List ℕ)) (index least : ℕ) (found : Option (List ℕ)) → length known ≤ index → nearest_from word (drop index known) least found ≡ found
all_looked_at word known index least found all = at_drop_all (λ (rest : List (List ℕ)). nearest_from word rest least found) known index all
