-- Lists for the replies of all partitions.
use Rattle.std.specs.Prelude.{ℕ, ◌≡◌, ◌≤◌, ◌+◌, List, [], ◌∷◌, ◌++◌, length, slice_get, Some, Vec, vec_len, vec_capacity, Result, Ok}
use Rattle.apex_types.specs.declared.call.Call.{Call}
use Rattle.apex_types.specs.declared.moment.Moment.{Moment}
use Rattle.apex_types.specs.declared.reply.Reply.{Reply}
use Rattle.apex_ports.specs.declared.run_fault.RunFault.{RunFault}

-- one reply for each call of the partition's script
abbrev pub AnswersAll : List (List (Moment × Call)) → ℕ → List Reply → Type 0
AnswersAll scripts partition replies =
    (script : List (Moment × Call)) → slice_get scripts partition ≡ Some script → length replies ≡ length script

-- an empty list for each of the first partitions
pub record AreReady (scripts : List (List (Moment × Call))) (lists : List (List Reply)) : Type 0 where
  pub within : length lists ≤ length scripts
  pub each : (p : ℕ) (list : List Reply) → slice_get lists p ≡ Some list → list ≡ []

-- the vector has the replies of the lower partitions and those of the next one, in the room that it had
abbrev pub AddsReplies : {A : Type 0} → Result (Vec (List Reply) A) RunFault → Result (List Reply) RunFault → Vec (List Reply) A → Type 0
AddsReplies (Ok lower) (Ok next) all = (all.items ≡ lower.items ++ next ∷ []) × (vec_len all ≡ vec_len lower + 1) × (vec_capacity all ≡ vec_capacity lower)
AddsReplies _ _ all = ⊥
