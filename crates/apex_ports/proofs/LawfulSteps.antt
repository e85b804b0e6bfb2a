-- One more lawful entry, and what holds for lawful histories.
use Rattle.apex_ports.proofs.Common.{◌≡◌, ◌≢◌, ℕ, ◌<◌, ◌==◌, Bool, true, false, [], ◌∷◌, ◌++◌, length, take, Some, refl, sym, ap, ◌∙◌, subst, arith, slice_get, nat_tests, take-append-le, take-append_seam, slice_get-last, slice_get-push, slice_get_within, Call, Moment, Reply, Configuration, IsConfiguration, Entry, History, entry_of, IsLawful, IsLawfulEntry, reply_to, IsSound}

-- a lawful history stays lawful with one more lawful entry
pub lawful_push : (config : Configuration) (h : History) (p : ℕ) (at : Moment) (call : Call) (reply : Reply) → IsLawful config h → p < length config.partitions → reply ≡ reply_to config h p at call → IsLawful config (h ++ entry_of p at call reply ∷ [])
lawful_push config h p at call reply lawful within is k entry here = by_test (k == length h) refl
  where
    e : Entry
    e = entry_of p at call reply

    by_test : (b : Bool) → (k == length h) ≡ b → IsLawfulEntry config (take k (h ++ e ∷ [])) entry
    by_test true last =
        let index : k ≡ length h = grind (arith, nat_tests) in
        let same : Some entry ≡ Some e = sym here ∙ slice_get-last h e k index in
        let is_e : e ≡ entry = cc in
        let before : h ≡ take k (h ++ e ∷ []) = sym (ap (λ n. take n (h ++ e ∷ [])) index ∙ take-append_seam h (e ∷ [])) in
        subst (λ (x : Entry). IsLawfulEntry config (take k (h ++ e ∷ [])) x) is_e (subst (λ (g : History). IsLawfulEntry config g e) before (within, is))
    by_test false earlier =
        let apart : k ≢ length h = grind (arith, nat_tests) in
        let was : slice_get h k ≡ Some entry = sym (slice_get-push h e k apart) ∙ here in
        let inside = slice_get_within h k entry was in
        let before : take k (h ++ e ∷ []) ≡ take k h = take-append-le k h (e ∷ []) (omega arith) in
        subst (λ (g : History). IsLawfulEntry config g entry) (sym before) (lawful k entry was)

-- what holds for the ports still holds with one more lawful entry
pub sound-push : (config : Configuration) (h : History) (p : ℕ) (at : Moment) (call : Call) (reply : Reply) → IsSound config h → p < length config.partitions → reply ≡ reply_to config h p at call → IsSound config (h ++ entry_of p at call reply ∷ [])
sound-push config h p at call reply sound within is = record {
  valid = sound.valid;
  lawful = lawful_push config h p at call reply sound.lawful within is;
}

-- it holds for the empty history
pub sound-nil : (config : Configuration) → IsConfiguration config → IsSound config []
sound-nil config valid = record { valid = valid; lawful = λ k entry here. absurd (cc) }
