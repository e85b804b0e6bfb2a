-- Observers of the sampling channels, each with its channel.
use Rattle.std.proofs.Common.{◌≡◌, ◌≢◌, ◌⊎◌, inl, inr, ⊎_elim, ◌+◌, ◌<◌, set, subst, arith, ℕ, zero, suc, [], ◌∷◌, length, List, Option, None, Some, map, filter_map, option_map, take, slice_get, refl, ap, sym, ◌∙◌}
use Rattle.std.proofs.lemmas.Option.{slice_get-map}
use Rattle.apex_observers.specs.Published.{Published}
use Rattle.apex_observers.specs.Channels.{Channels, AreObservers, books_of, sampling_of}

pub books_of_sampling : (channels : Channels) → map (λ known. known.channel) (sampling_of channels) ≡ filter_map (λ book. book) (books_of channels)
books_of_sampling [] = refl
books_of_sampling (None ∷ channels) = books_of_sampling channels
books_of_sampling (Some published ∷ channels) = ap (λ books. published.channel ∷ books) (books_of_sampling channels)

-- the index of a channel among the sampling channels
pub sampling_at : (channels : Channels) (n : ℕ) (published : Published) → slice_get channels n ≡ Some (Some published)
    → slice_get (sampling_of channels) (length (sampling_of (take n channels))) ≡ Some published
sampling_at [] n published at = absurd (cc)
sampling_at (None ∷ channels) zero published at = absurd (cc)
sampling_at (Some first ∷ channels) zero published at = cc
sampling_at (None ∷ channels) (suc n) published at = sampling_at channels n published at
sampling_at (Some first ∷ channels) (suc n) published at = sampling_at channels n published at

-- the observer at an index is of the channel at that index
pub observer_at : (channels : Channels) (observers : List Published) (index : ℕ) (published : Published) → AreObservers channels observers → slice_get (sampling_of channels) index ≡ Some published
    → (known : Published) × (slice_get observers index ≡ Some known) × (published.channel ≡ known.channel)
observer_at channels observers index published are at = by_entry (slice_get observers index) refl
  where
    same : option_map (λ known. known.channel) (slice_get observers index) ≡ Some published.channel
    same = sym (slice_get-map (λ known. known.channel) observers index)
        ∙ (ap (λ books. slice_get books index) (are ∙ sym (books_of_sampling channels))
        ∙ (slice_get-map (λ known. known.channel) (sampling_of channels) index ∙ ap (option_map (λ known. known.channel)) at))

    by_entry : (o : Option Published) → slice_get observers index ≡ o → (known : Published) × (slice_get observers index ≡ Some known) × (published.channel ≡ known.channel)
    by_entry None is = let none = ap (option_map (λ known. known.channel)) is in absurd (cc (none, same))
    by_entry (Some known) is = let some = ap (option_map (λ known. known.channel)) is in (known, is, cc (some, same))

set_cases : (xs : List Published) (i : ℕ) (y : Published) (k : ℕ) (x : Published) → slice_get (set xs i y) k ≡ Some x → ((k ≡ i) × (x ≡ y)) ⊎ ((k ≢ i) × (slice_get xs k ≡ Some x))
set_cases [] i y k x at = inr ((λ e. absurd (cc)), at)
set_cases (z ∷ xs) zero y zero x at = inl (refl, cc)
set_cases (z ∷ xs) zero y (suc k) x at = inr ((λ e. absurd (omega arith)), at)
set_cases (z ∷ xs) (suc i) y zero x at = inr ((λ e. absurd (omega arith)), at)
set_cases (z ∷ xs) (suc i) y (suc k) x at =
    ⊎_elim
    (λ (h : (k ≡ i) × (x ≡ y)). inl (ap suc h.0, h.1))
    (λ (h : (k ≢ i) × (slice_get xs k ≡ Some x)). inr ((λ e. h.0 (omega arith)), h.1))
    (set_cases xs i y k x at)

-- what holds for the observers so far, each beside its channel, holds with one more observer
pub one_more : (Holds : Published → Published → Type 0) (channels : Channels) (index : ℕ) (publisher new : Published) (observers : List Published) → slice_get (sampling_of channels) index ≡ Some publisher → Holds publisher new
    → ((k : ℕ) (published known : Published) → k < index → slice_get (sampling_of channels) k ≡ Some published → slice_get observers k ≡ Some known → Holds published known)
    → (k : ℕ) (published known : Published) → k < index + 1 → slice_get (sampling_of channels) k ≡ Some published → slice_get (set observers index new) k ≡ Some known → Holds published known
one_more Holds channels index publisher new observers at holds before k published known within there here =
    ⊎_elim
    (λ (h : (k ≡ index) × (known ≡ new)).
    let same : published ≡ publisher = let moved = ap (λ n. slice_get (sampling_of channels) n) h.0 in cc (at, there, moved) in
    subst (λ (p : Published). Holds p known) (sym same) (subst (λ (o : Published). Holds publisher o) (sym h.1) holds))
    (λ (h : (k ≢ index) × (slice_get observers k ≡ Some known)). before k published known (omega (arith, within, h.0)) there h.1)
    (set_cases observers index new k known here)
