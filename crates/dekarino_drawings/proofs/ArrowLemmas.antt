-- The calls of a history one after the other, as a loop goes through them.
use Rattle.dekarino_drawings.proofs.Common.{◌≡◌, ℕ, ◌+◌, ◌≤◌, List, [], ◌∷◌, ◌++◌, length, drop, take, Some, refl, ap, ◌∙◌, slice_get, length-map, take_more, slice_get_within, get_or_from_slice_get, Configuration, History, request_of, requests_of, origin_of, arrow_from, arrows_after, drop_at}
use Rattle.std.proofs.Math.ListN.{drop_of_length-le}
use Rattle.apex_ports.specs.declared.history.Entry.{Entry}

pub take_at : {X : Type 0} (xs : List X) (i : ℕ) (x : X) → slice_get xs i ≡ Some x → take (i + 1) xs ≡ take i xs ++ x ∷ []
take_at xs i x is = take_more xs i x (slice_get_within xs i x is) ∙ ap (λ y. take i xs ++ y ∷ []) (get_or_from_slice_get xs i x x is)

pub arrow_cut : (config : Configuration) (calls : History) (i : ℕ) (entry : Entry) → slice_get calls i ≡ Some entry
    → arrows_after config (take i calls) (drop i calls)
    ≡ arrow_from (origin_of config (take i calls) entry.partition entry.call entry.reply) (length (take i calls)) ++ arrows_after config (take (i + 1) calls) (drop (i + 1) calls)
unfolding arrows_after
arrow_cut config calls i entry is = rw (drop_at calls i entry is, take_at calls i entry is) refl

pub arrow_end : (config : Configuration) (calls : History) (i : ℕ) → length calls ≤ i → arrows_after config (take i calls) (drop i calls) ≡ []
unfolding arrows_after
arrow_end config calls i past = rw (drop_of_length-le calls past) refl
