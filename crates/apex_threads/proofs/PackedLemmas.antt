-- Packed replies stay the same while messages are added.
use Rattle.apex_threads.proofs.Common.{◌≡◌, ◌≢◌, ℕ, suc, ◌<◌, ◌==◌, Bool, true, false, List, [], ◌∷◌, ◌++◌, length, map, Some, refl, sym, ap, ◌∙◌, subst, arith, length-append, slice_get, nat_tests, map-append, slice_get_within, Reply}
use Rattle.apex_types.specs.declared.reply.Reply.TheVariants as reply
use Rattle.apex_threads.specs.declared.packed.Packed.{Packed}
use Rattle.apex_threads.specs.declared.packed.Packed.TheVariants as packed
use Rattle.apex_threads.specs.PackedReplies.{reply_in, IsPacked, ArePacked}
use Rattle.apex_threads.proofs.Lists.{slice_get_end, slice_get_before}
use Rattle.apex_threads.proofs.CallLemmas.{same_stored}

module _ (messages more : List (List ℕ)) where
  same_reply : (one : Packed) → IsPacked (length messages) one → reply_in (messages ++ more) one ≡ reply_in messages one
  same_reply packed.NotMade is = refl
  same_reply (packed.Code code) is = refl
  same_reply (packed.Id id) is = refl
  same_reply (packed.Received message) is = ap reply.Received (same_stored messages more message is)
  same_reply (packed.Read message validity) is = ap (λ m. reply.Read m validity) (same_stored messages more message is)
  same_reply (packed.QueuingStatus waiting depth size direction) is = refl
  same_reply (packed.SamplingStatus refresh size direction last) is = refl

  packed_still : (one : Packed) → IsPacked (length messages) one → IsPacked (length (messages ++ more)) one
  packed_still packed.NotMade is = tt
  packed_still (packed.Code code) is = tt
  packed_still (packed.Id id) is = tt
  packed_still (packed.Received message) is = omega (arith, is, length-append messages more)
  packed_still (packed.Read message validity) is = omega (arith, is, length-append messages more)
  packed_still (packed.QueuingStatus waiting depth size direction) is = tt
  packed_still (packed.SamplingStatus refresh size direction last) is = tt

  -- the replies are the same as before
  pub same_replies : (all : List Packed) → ArePacked (length messages) all → map (reply_in (messages ++ more)) all ≡ map (reply_in messages) all
  same_replies [] are = refl
  same_replies (one ∷ all) are =
      ap (λ first. first ∷ map (reply_in (messages ++ more)) all) (same_reply one (are 0 one refl))
      ∙ ap (λ rest. reply_in messages one ∷ rest) (same_replies all (λ k other here. are (suc k) other here))

  pub still_packed : (all : List Packed) → ArePacked (length messages) all → ArePacked (length (messages ++ more)) all
  still_packed all are k one here = packed_still one (are k one here)

  -- one more reply
  pub pushed : (all : List Packed) (one : Packed) (given : Reply) → ArePacked (length messages) all → reply_in (messages ++ more) one ≡ given
      → map (reply_in (messages ++ more)) (all ++ one ∷ []) ≡ map (reply_in messages) all ++ given ∷ []
  pushed all one given are is =
      map-append (reply_in (messages ++ more)) all (one ∷ []) ∙ (ap (λ front. front ++ reply_in (messages ++ more) one ∷ []) (same_replies all are) ∙ ap (λ last. map (reply_in messages) all ++ last ∷ []) is)

-- one more packed reply
pub one_more_packed : (messages : ℕ) (all : List Packed) (one : Packed) → ArePacked messages all → IsPacked messages one → ArePacked messages (all ++ one ∷ [])
one_more_packed messages all one are is k other here = by_test (k == length all) refl
  where
    by_test : (b : Bool) → (k == length all) ≡ b → IsPacked messages other
    by_test true test =
        let at : k ≡ length all = grind (arith, nat_tests) in
        let same : Some other ≡ Some one = sym here ∙ (ap (λ j. slice_get (all ++ one ∷ []) j) at ∙ slice_get_end all one) in
        let one_is : one ≡ other = cc in
        subst (IsPacked messages) one_is is
    by_test false test =
        let apart : k ≢ length all = grind (arith, nat_tests) in
        let within = slice_get_within (all ++ one ∷ []) k other here in
        let before : k < length all = omega (arith, length-append all (one ∷ [])) in
        are k other (sym (slice_get_before all (one ∷ []) k before) ∙ here)
