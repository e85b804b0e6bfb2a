-- Packed calls stay the same while messages and names are added.
use Rattle.apex_threads.proofs.Common.{◌≡◌, ◌≢◌, ℕ, suc, ◌<◌, ◌==◌, Bool, true, false, List, [], ◌∷◌, ◌++◌, length, map, Some, refl, sym, ap, ◌∙◌, subst, arith, length-append, slice_get, nat_tests, map-append, slice_get_within, Call, Moment}
use Rattle.std.specs.Prelude.{unwrap_or}
use Rattle.apex_types.specs.declared.call.Call.TheVariants as call
use Rattle.apex_threads.specs.declared.packed_script.PackedCall.{PackedCall}
use Rattle.apex_threads.specs.declared.packed_script.PackedCall.TheVariants as packed
use Rattle.apex_threads.specs.PackedCalls.{stored_at, call_in, timed_in, IsPackedCall, ArePackedCalls}
use Rattle.apex_threads.proofs.Lists.{slice_get_end, slice_get_before}

-- what is stored stays at its index
pub same_stored : (all more : List (List ℕ)) (index : ℕ) → index < length all → stored_at (all ++ more) index ≡ stored_at all index
same_stored all more index within = ap (λ found. unwrap_or found []) (slice_get_before all more index within)

module _ (messages more : List (List ℕ)) (names others : List (List ℕ)) where
  same_call : (one : PackedCall) → IsPackedCall (length messages) (length names) one → call_in (messages ++ more) (names ++ others) one ≡ call_in messages names one
  same_call (packed.CreateSampling name size direction refresh) is = ap (λ n. call.CreateSampling n size direction refresh) (same_stored names others name is)
  same_call (packed.WriteSampling id message) is = ap (call.WriteSampling id) (same_stored messages more message is)
  same_call (packed.ReadSampling id) is = refl
  same_call (packed.SamplingId name) is = ap call.SamplingId (same_stored names others name is)
  same_call (packed.SamplingStatus id) is = refl
  same_call (packed.CreateQueuing name size depth direction discipline) is = ap (λ n. call.CreateQueuing n size depth direction discipline) (same_stored names others name is)
  same_call (packed.SendQueuing id message) is = ap (call.SendQueuing id) (same_stored messages more message is)
  same_call (packed.ReceiveQueuing id) is = refl
  same_call (packed.QueuingId name) is = ap call.QueuingId (same_stored names others name is)
  same_call (packed.QueuingStatus id) is = refl
  same_call (packed.ClearQueuing id) is = refl
  same_call (packed.SetMode mode) is = refl

  call_still : (one : PackedCall) → IsPackedCall (length messages) (length names) one → IsPackedCall (length (messages ++ more)) (length (names ++ others)) one
  call_still (packed.CreateSampling name size direction refresh) is = omega (arith, is, length-append names others)
  call_still (packed.WriteSampling id message) is = omega (arith, is, length-append messages more)
  call_still (packed.ReadSampling id) is = tt
  call_still (packed.SamplingId name) is = omega (arith, is, length-append names others)
  call_still (packed.SamplingStatus id) is = tt
  call_still (packed.CreateQueuing name size depth direction discipline) is = omega (arith, is, length-append names others)
  call_still (packed.SendQueuing id message) is = omega (arith, is, length-append messages more)
  call_still (packed.ReceiveQueuing id) is = tt
  call_still (packed.QueuingId name) is = omega (arith, is, length-append names others)
  call_still (packed.QueuingStatus id) is = tt
  call_still (packed.ClearQueuing id) is = tt
  call_still (packed.SetMode mode) is = tt

  -- the calls are the same as before
  pub same_calls : (all : List (Moment × PackedCall)) → ArePackedCalls (length messages) (length names) all → map (timed_in (messages ++ more) (names ++ others)) all ≡ map (timed_in messages names) all
  same_calls [] are = refl
  same_calls (one ∷ all) are =
      ap (λ (first : Call). (one.0, first) ∷ map (timed_in (messages ++ more) (names ++ others)) all) (same_call one.1 (are 0 one refl))
      ∙ ap (λ rest. timed_in messages names one ∷ rest) (same_calls all (λ k other here. are (suc k) other here))

  pub still_packed_calls : (all : List (Moment × PackedCall)) → ArePackedCalls (length messages) (length names) all → ArePackedCalls (length (messages ++ more)) (length (names ++ others)) all
  still_packed_calls all are k one here = call_still one.1 (are k one here)

  -- one more call
  pub pushed_call : (all : List (Moment × PackedCall)) (at : Moment) (one : PackedCall) (given : Call) → ArePackedCalls (length messages) (length names) all → call_in (messages ++ more) (names ++ others) one ≡ given
      → map (timed_in (messages ++ more) (names ++ others)) (all ++ (at, one) ∷ []) ≡ map (timed_in messages names) all ++ (at, given) ∷ []
  pushed_call all at one given are is =
      map-append (timed_in (messages ++ more) (names ++ others)) all ((at, one) ∷ [])
      ∙ (ap (λ front. front ++ (at, call_in (messages ++ more) (names ++ others) one) ∷ []) (same_calls all are) ∙ ap (λ (last : Call). map (timed_in messages names) all ++ (at, last) ∷ []) is)

-- one more packed call
pub one_more_packed_call : (messages names : ℕ) (all : List (Moment × PackedCall)) (at : Moment) (one : PackedCall) → ArePackedCalls messages names all → IsPackedCall messages names one → ArePackedCalls messages names (all ++ (at, one) ∷ [])
one_more_packed_call messages names all at one are is k other here = by_test (k == length all) refl
  where
    by_test : (b : Bool) → (k == length all) ≡ b → IsPackedCall messages names other.1
    by_test true test =
        let index : k ≡ length all = grind (arith, nat_tests) in
        let same : Some other ≡ Some (at, one) = sym here ∙ (ap (λ j. slice_get (all ++ (at, one) ∷ []) j) index ∙ slice_get_end all (at, one)) in
        let one_is : (at, one) ≡ other = cc in
        subst (λ (timed : Moment × PackedCall). IsPackedCall messages names timed.1) one_is is
    by_test false test =
        let apart : k ≢ length all = grind (arith, nat_tests) in
        let within = slice_get_within (all ++ (at, one) ∷ []) k other here in
        let before : k < length all = omega (arith, length-append all ((at, one) ∷ [])) in
        are k other (sym (slice_get_before all ((at, one) ∷ []) k before) ∙ here)
