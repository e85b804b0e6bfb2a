-- What holds for the ports after an event is added to the history.
use Rattle.apex_ports.proofs.Common.{◌≡◌, ℕ, ◌+◌, ◌-◌, ◌^◌, ◌<◌, List, [], ◌∷◌, ◌++◌, length, set, min, get_or, sym, subst, arith, Call, Moment, Reply, Configuration, ChannelState, PartitionState, History, entry_of, AreCounted, AreKept, reply_to, IsSound}
use Rattle.apex_ports.proofs.Counts.{counted-push}
use Rattle.apex_ports.proofs.LawfulSteps.{sound-push}
use Rattle.apex_ports.proofs.Lookups.{at_index}

module _ (config : Configuration) (h past : History) (p : ℕ) (at : Moment) (call : Call) (reply : Reply) where
  pub noted_sound : past ≡ h ++ entry_of p at call reply ∷ [] → IsSound config h → p < length config.partitions → reply ≡ reply_to config h p at call → IsSound config past
  noted_sound grown sound within is = subst (IsSound config) (sym grown) (sound-push config h p at call reply sound within is)

  pub noted_kept : {A : Type 0} (partitions : List (PartitionState A)) (channels : List (ChannelState A)) → past ≡ h ++ entry_of p at call reply ∷ []
      → AreKept config (h ++ entry_of p at call reply ∷ []) partitions channels → AreKept config past partitions channels
  noted_kept partitions channels grown kept = subst (λ (x : History). AreKept config x partitions channels) (sym grown) kept

  pub noted_counted : (calls : List ℕ) (was now : ℕ) → past ≡ h ++ entry_of p at call reply ∷ [] → AreCounted config h calls → p < length config.partitions
      → was ≡ get_or calls p was → now ≡ min (was + 1) (2 ^ 64 - 1) → AreCounted config past (set calls p now)
  noted_counted calls was now grown counted within here more =
      let all = counted.all in
      let inside : p < length calls = omega arith in
      subst (λ (x : History). AreCounted config x (set calls p now)) (sym grown) (counted-push config h calls p at call reply was now counted (at_index calls p was inside here) more)
