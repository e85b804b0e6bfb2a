-- The first channel of each name, among channels that are met one after the other.
use Rattle.apex_config.proofs.Common.{◌≡◌, ℕ, ◌+◌, ◌<◌, ◌≤◌, Bool, true, false, cond, eqb, ltb, List, [], ◌∷◌, ◌++◌, Option, Some, None, length, take, get_or, refl, sym, ap, ◌∙◌, subst, arith, length-append, position, position_or_len, bytes_eq, false≢true, take_more, length-take-le, ChannelText}
use Rattle.std.specs.Option.{is_some}
use Rattle.std.proofs.lemmas.List.Folds.{position_or_len_push}
use Rattle.std.proofs.lemmas.List.Sums.{prefix_len-le-length}
use Rattle.std.proofs.lemmas.Slice.Eq.{bytes_eq-Decides}

-- ---- one more element

pushed : (number count : ℕ) (last : Bool) → number ≤ count
    → cond (ltb (cond (eqb number count) (count + cond last 0 1) number) (count + 1)) (Some (cond (eqb number count) (count + cond last 0 1) number)) None ≡ cond (ltb number count) (Some number) (cond last (Some count) None)
pushed number count last within = grind arith

position_push : {X : Type 0} (p : X → Bool) (xs : List X) (y : X) → position p (xs ++ y ∷ []) ≡ cond (ltb (position_or_len p xs) (length xs)) (Some (position_or_len p xs)) (cond (p y) (Some (length xs)) None)
position_push p xs y = rw (position_or_len_push p xs y, length-append xs (y ∷ [])) (pushed (position_or_len p xs) (length xs) (p y) (prefix_len-le-length _ xs))

push_other : {X : Type 0} (p : X → Bool) (xs : List X) (y : X) → p y ≡ false → position p xs ≡ position p (xs ++ y ∷ [])
push_other p xs y other = rw (position_push p xs y, other) refl

push_later : {X : Type 0} (p : X → Bool) (xs : List X) (y : X) → is_some (position p xs) ≡ true → position p xs ≡ position p (xs ++ y ∷ [])
push_later p xs y known = kept (ltb (position_or_len p xs) (length xs)) (position_or_len p xs) (cond (p y) (Some (length xs)) None) known ∙ sym (position_push p xs y)
  where
    kept : (there : Bool) (number : ℕ) (last : Option ℕ) → is_some (cond there (Some number) None) ≡ true → cond there (Some number) None ≡ cond there (Some number) last
    kept true number last known = refl
    kept false number last known = absurd (false≢true known)

push_first : {X : Type 0} (p : X → Bool) (xs : List X) (y : X) → is_some (position p xs) ≡ false → p y ≡ true → Some (length xs) ≡ position p (xs ++ y ∷ [])
push_first p xs y new here = rw (position_push p xs y, here) (last (ltb (position_or_len p xs) (length xs)) (position_or_len p xs) (length xs) new)
  where
    last : (there : Bool) (number count : ℕ) → is_some (cond there (Some number) None) ≡ false → Some count ≡ cond there (Some number) (Some count)
    last true number count new = absurd (false≢true (sym new))
    last false number count new = refl

-- ---- the channel at a number

more : (channels : List ChannelText) (i : ℕ) (channel : ChannelText) → i < length channels → channel ≡ get_or channels i channel → take i channels ++ channel ∷ [] ≡ take (i + 1) channels
more channels i channel inside is = ap (λ (last : ChannelText). take i channels ++ last ∷ []) is ∙ sym (take_more channels i channel inside)

-- a channel whose name was met
pub known_at : (channels : List ChannelText) (i : ℕ) (channel : ChannelText) (key name : List ℕ) → i < length channels → channel ≡ get_or channels i channel → channel.name ≡ key
    → is_some (position (λ other. bytes_eq other.name key) (take i channels)) ≡ true
    → position (λ other. bytes_eq other.name name) (take i channels) ≡ position (λ other. bytes_eq other.name name) (take (i + 1) channels)
known_at channels i channel key name inside is keyed known = rw (← more channels i channel inside is) (by_test (bytes_eq channel.name name) refl)
  where
    by_test : (same : Bool) → bytes_eq channel.name name ≡ same → position (λ other. bytes_eq other.name name) (take i channels) ≡ position (λ other. bytes_eq other.name name) (take i channels ++ channel ∷ [])
    by_test false h = push_other (λ (other : ChannelText). bytes_eq other.name name) (take i channels) channel h
    by_test true h =
        push_later (λ (other : ChannelText). bytes_eq other.name name) (take i channels) channel
        (subst (λ (n : List ℕ). is_some (position (λ (other : ChannelText). bytes_eq other.name n) (take i channels)) ≡ true) (sym keyed ∙ (bytes_eq-Decides channel.name name).0 h) known)

-- a channel whose name was not met
pub new_at : (channels : List ChannelText) (i : ℕ) (channel : ChannelText) (key name : List ℕ) → i < length channels → channel ≡ get_or channels i channel → channel.name ≡ key
    → is_some (position (λ other. bytes_eq other.name key) (take i channels)) ≡ false
    → cond (bytes_eq key name) (Some i) (position (λ other. bytes_eq other.name name) (take i channels)) ≡ position (λ other. bytes_eq other.name name) (take (i + 1) channels)
new_at channels i channel key name inside is keyed new = rw (← more channels i channel inside is, ← keyed) (by_test (bytes_eq channel.name name) refl)
  where
    by_test : (same : Bool) → bytes_eq channel.name name ≡ same
        → cond same (Some i) (position (λ other. bytes_eq other.name name) (take i channels)) ≡ position (λ other. bytes_eq other.name name) (take i channels ++ channel ∷ [])
    by_test false h = push_other (λ (other : ChannelText). bytes_eq other.name name) (take i channels) channel h
    by_test true h =
        let met = subst (λ (n : List ℕ). is_some (position (λ (other : ChannelText). bytes_eq other.name n) (take i channels)) ≡ false) (sym keyed ∙ (bytes_eq-Decides channel.name name).0 h) new in
        let count : length (take i channels) ≡ i = length-take-le i channels (omega (arith, inside)) in
        ap Some (sym count) ∙ push_first (λ (other : ChannelText). bytes_eq other.name name) (take i channels) channel met h
