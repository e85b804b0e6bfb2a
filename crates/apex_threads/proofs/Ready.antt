-- The lists that are ready for the replies, and the vector that gains them.
use Rattle.apex_threads.proofs.Common.{◌≡◌, ◌≢◌, ℕ, ◌+◌, ◌<◌, ◌==◌, Bool, true, false, List, [], ◌∷◌, ◌++◌, length, Some, Vec, vec_len, vec_capacity, Result, Ok, Err, IfOk, IfErr, refl, sym, ap, subst, ◌∙◌, arith, length-append, slice_get, nat_tests, slice_get_within, Call, Moment, Reply, AreReady, AddsReplies}
use Rattle.apex_ports.specs.declared.run_fault.RunFault.{RunFault}
use Rattle.apex_ports.specs.declared.run_fault.RunFault.TheVariants as run_fault
use Rattle.apex_threads.specs.Order.{first_fault}
use Rattle.apex_threads.proofs.Lists.{slice_get_end, slice_get_before}

module _ (scripts : List (List (Moment × Call))) (lists : List (List Reply)) (last : List Reply) where
  -- all but the last of them
  pub ready_front : AreReady scripts (lists ++ last ∷ []) → AreReady scripts lists
  ready_front ready = record {
    within = let all = ready.within in omega (arith, length-append lists (last ∷ []));
    each = λ p list here. ready.each p list (slice_get_before lists (last ∷ []) p (slice_get_within lists p list here) ∙ here);
  }

  pub partition_within : AreReady scripts (lists ++ last ∷ []) → length lists < length scripts
  partition_within ready = let all = ready.within in omega (arith, length-append lists (last ∷ []))

  -- the last of them
  pub ready_last : AreReady scripts (lists ++ last ∷ []) → last ≡ []
  ready_last ready = ready.each (length lists) last (slice_get_end lists last)

  -- one more of them
  pub ready_more : AreReady scripts lists → length lists < length scripts → last ≡ [] → AreReady scripts (lists ++ last ∷ [])
  ready_more ready index empty = record {
    within = omega (arith, length-append lists (last ∷ []));
    each = λ p other here. by_test p other here (p == length lists) refl;
  }
    where
      by_test : (p : ℕ) (other : List Reply) → slice_get (lists ++ last ∷ []) p ≡ Some other → (b : Bool) → (p == length lists) ≡ b → other ≡ []
      by_test p other here true test =
          let is : p ≡ length lists = grind (arith, nat_tests) in
          let same : Some other ≡ Some last = sym here ∙ (ap (λ k. slice_get (lists ++ last ∷ []) k) is ∙ slice_get_end lists last) in
          let list_is : other ≡ last = cc in
          list_is ∙ empty
      by_test p other here false test =
          let apart : p ≢ length lists = grind (arith, nat_tests) in
          let within = slice_get_within (lists ++ last ∷ []) p other here in
          let before : p < length lists = omega (arith, length-append lists (last ∷ [])) in
          ready.each p other (sym (slice_get_before lists (last ∷ []) p before) ∙ here)

-- one more partition's replies
pub one_more_reply : {A : Type 0} (lower : Result (Vec (List Reply) A) RunFault) (next : Result (List Reply) RunFault) (result : Result (Vec (List Reply) A) RunFault) (n : ℕ)
    → IfOk lower (λ replies. vec_len replies ≡ n) → IfOk result (AddsReplies lower next) → IfOk result (λ all. vec_len all ≡ n + 1)
one_more_reply (Ok lower) (Ok next) (Ok all) n count adds = let longer = adds.1 in omega arith
one_more_reply (Ok lower) (Err fault) (Ok all) n count adds = absurd adds
one_more_reply (Err fault) next (Ok all) n count adds = absurd adds
one_more_reply lower next (Err fault) n count adds = tt

-- in the room of the lower partitions' replies
pub same_room : {A : Type 0} (lower : Result (Vec (List Reply) A) RunFault) (next : Result (List Reply) RunFault) (result : Result (Vec (List Reply) A) RunFault) (room : ℕ)
    → IfOk lower (λ replies. vec_capacity replies ≡ room) → IfOk result (AddsReplies lower next) → IfOk result (λ all. vec_capacity all ≡ room)
same_room (Ok lower) (Ok next) (Ok all) room same adds = adds.2 ∙ same
same_room (Ok lower) (Err fault) (Ok all) room same adds = absurd adds
same_room (Err fault) next (Ok all) room same adds = absurd adds
same_room lower next (Err fault) room same adds = tt

-- what holds for the faults of the workers, and for that of a worker that wasn't started, holds for the first one
pub first_of : {X Y Z : Type 0} (P : RunFault → Type 0) (lower : Result X RunFault) (next : Result Y RunFault) (result : Result Z RunFault) → P run_fault.WorkerNotStarted
    → IfErr lower P → IfErr next P → IfErr result (λ one. first_fault lower next ≡ Some one) → IfErr result P
first_of {X} {Y} {Z} P lower next (Ok all) never low high first = tt
first_of {X} {Y} {Z} P lower next (Err one) never low high first = by_cases lower next low high first
  where
    moved : (other : RunFault) → P other → Some other ≡ Some one → P one
    moved other holds is = let same : other ≡ one = cc in subst P same holds

    by_cases : (lower : Result X RunFault) (next : Result Y RunFault) → IfErr lower P → IfErr next P → first_fault lower next ≡ Some one → P one
    by_cases lower (Err run_fault.WorkerNotStarted) low high is = moved run_fault.WorkerNotStarted never is
    by_cases (Err a) (Err run_fault.OutOfMemory) low high is = moved a low is
    by_cases (Err a) (Err (run_fault.Held p n)) low high is = moved a low is
    by_cases (Err a) (Err run_fault.ResultsDiffer) low high is = moved a low is
    by_cases (Err a) (Err run_fault.NoObserver) low high is = moved a low is
    by_cases (Err a) (Ok replies) low high is = moved a low is
    by_cases (Ok all) (Err b) low high is = moved b high is
    by_cases (Ok all) (Ok replies) low high is = absurd (cc)
