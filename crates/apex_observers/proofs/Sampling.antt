-- The sampling channels of a module, one channel after the other.
use Rattle.std.proofs.Common.{◌≡◌, ℕ, suc, ◌+◌, ◌<◌, [], ◌∷◌, ◌++◌, length, Option, None, Some, take, slice_index_or, refl, ap, sym, ◌∙◌, arith}
use Rattle.std.specs.Option.{option_to_list}
use Rattle.std.proofs.Math.Seq.{take-suc}
use Rattle.std.proofs.lemmas.List.Elements.{filter_map-append}
use Rattle.apex_observers.specs.Published.{Published}
use Rattle.apex_observers.specs.Channels.{Channels, sampling_of}

one_entry : (entry : Option Published) → sampling_of (entry ∷ []) ≡ option_to_list entry
one_entry None = refl
one_entry (Some published) = refl

-- one more channel
pub sampling_of-next : (channels : Channels) (c : ℕ) (entry : Option Published) → c < length channels → entry ≡ slice_index_or channels c entry
    → sampling_of (take (c + 1) channels) ≡ sampling_of (take c channels) ++ option_to_list entry
sampling_of-next channels c entry within is =
    let next : c + 1 ≡ suc c = omega arith in
    let more : take (c + 1) channels ≡ take c channels ++ entry ∷ [] =
    ap (λ n. take n channels) next ∙ (take-suc channels c entry within ∙ ap (λ e. take c channels ++ e ∷ []) (sym is)) in
    ap sampling_of more ∙ (filter_map-append (λ published. published) (take c channels) (entry ∷ []) ∙ ap (λ w. sampling_of (take c channels) ++ w) (one_entry entry))
