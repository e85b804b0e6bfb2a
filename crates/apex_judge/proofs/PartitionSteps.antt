-- What an entry of a log does to a partition.
use Rattle.apex_judge.proofs.Common.{◌≡◌, ◌≢◌, ℕ, ◌==◌, Bool, false, ◌&&◌, ◌||◌, not, if◌then◌else◌, List, set, refl, sym, ap, ◌∙◌, arith, unwrap_or, nat_tests, Call, CreateSampling, CreateQueuing, ReadSampling, SetMode, Moment, Reply, Invalid, Configuration, Entry, entry_of, EachAt, is_restart, LeavesPartition, leaves_partition, or_not, and_false, each_at_set, PartitionState, Subject, mode_shown, created_shown}
use Rattle.apex_judge.proofs.Common.{last_shown, with_evidence, IsPartitionShown, Picture, with_effects, is_at, port_about, is_mode, is_port, with_doubt}
use Rattle.apex_ports.proofs.PartitionSteps.{leaves_others}

pub partition_stays : {A : Type 0} (config : Configuration) (picture : Picture) (e : Entry) (p : ℕ) (state : PartitionState A) → IsPartitionShown config picture p state → LeavesPartition p e → IsPartitionShown config (with_effects config e picture) p state
partition_stays config picture e p state was left = record {
  mode = was.mode ∙ sym (ap (λ o. unwrap_or o (picture.mode p)) left.mode);
  mode_doubted = was.mode_doubted;
  ports = was.ports;
  created = λ id known. was.created id known ∙ sym ((λ i. left.created id i || (picture.created p id && not (is_restart (left.mode i)))) ∙ or_not (picture.created p id));
  last = λ id known. was.last id known ∙ sym (λ i. if left.created id i then Invalid else unwrap_or (left.read id i) (picture.last p id));
  port_doubted = was.port_doubted;
}

both_false : (a b : Bool) → b ≡ false → (a && b) ≡ false
both_false a b off = (λ i. a && off i) ∙ and_false a

other_number : (m n : ℕ) → n ≢ m → (m == n) ≡ false
other_number m n apart = grind (arith, nat_tests)

-- an entry concerns only its own partition
pub effects_elsewhere : {A : Type 0} (config : Configuration) (picture : Picture) (p : ℕ) (at : Moment) (call : Call) (reply : Reply) (q : ℕ) (state : PartitionState A) → q ≢ p
    → IsPartitionShown config picture q state → IsPartitionShown config (with_effects config (entry_of p at call reply) picture) q state
effects_elsewhere config picture p at call reply q state apart was =
    partition_stays config picture (entry_of p at call reply) q state was (leaves_others p at call reply q apart)

pub doubt_elsewhere : {A : Type 0} (config : Configuration) (picture : Picture) (p : ℕ) (subject : Subject) (doubted : Bool) (q : ℕ) (state : PartitionState A) → q ≢ p
    → IsPartitionShown config picture q state → IsPartitionShown config (with_doubt p subject doubted picture) q state
doubt_elsewhere config picture p subject doubted q state apart was =
    let other = other_number p q apart in
    record {
      mode = was.mode;
      mode_doubted = was.mode_doubted ∙ sym (λ i. if both_false (is_mode subject) (p == q) other i then doubted else picture.is_mode_doubted q);
      ports = was.ports;
      created = was.created;
      last = was.last;
      port_doubted = λ id known. was.port_doubted id known ∙ sym (λ i. if both_false (is_port id subject) (p == q) other i then doubted else picture.is_port_doubted q id);
    }

pub evidence_elsewhere : {A : Type 0} (config : Configuration) (picture : Picture) (p : ℕ) (at : Moment) (call : Call) (reply : Reply) (q : ℕ) (state : PartitionState A) → q ≢ p
    → IsPartitionShown config picture q state → IsPartitionShown config (with_evidence config (entry_of p at call reply) picture) q state
evidence_elsewhere config picture p at call reply q state apart was =
    let other = other_number p q apart in
    record {
      mode = was.mode ∙ sym (λ i. if other i then mode_shown (picture.mode q) call reply else picture.mode q);
      mode_doubted = was.mode_doubted;
      ports = was.ports;
      created = λ id known. was.created id known ∙ sym (λ i. if other i && is_at (port_about config p call) id then unwrap_or (created_shown call reply) (picture.created q id) else picture.created q id);
      last = λ id known. was.last id known ∙ sym (λ i. if other i && is_at (port_about config p call) id then unwrap_or (last_shown reply) (picture.last q id) else picture.last q id);
      port_doubted = was.port_doubted;
    }

-- the entry is applied to one partition, and leaves the others unchanged
pub one_partition : {A : Type 0} (config : Configuration) (before after : Picture) (p : ℕ) (partitions : List (PartitionState A)) (new : PartitionState A)
    → ((q : ℕ) (state : PartitionState A) → q ≢ p → IsPartitionShown config before q state → IsPartitionShown config after q state)
    → EachAt (IsPartitionShown config before) partitions → IsPartitionShown config after p new → EachAt (IsPartitionShown config after) (set partitions p new)
one_partition config before after p partitions new others each mine =
    each_at_set (IsPartitionShown config before) (IsPartitionShown config after) partitions p new each others mine

-- a call that neither creates nor reads nor sets a mode
pub others_leave : (p : ℕ) (at : Moment) (call : Call) (reply : Reply)
    → ((name : List ℕ) (size direction refresh : ℕ) → call ≢ CreateSampling name size direction refresh)
    → ((name : List ℕ) (size depth direction discipline : ℕ) → call ≢ CreateQueuing name size depth direction discipline)
    → ((id : ℕ) → call ≢ ReadSampling id) → ((mode : ℕ) → call ≢ SetMode mode)
    → LeavesPartition p (entry_of p at call reply)
others_leave p at (CreateSampling name size direction refresh) reply no_sampling no_queuing no_read no_mode = absurd (no_sampling name size direction refresh refl)
others_leave p at (CreateQueuing name size depth direction discipline) reply no_sampling no_queuing no_read no_mode = absurd (no_queuing name size depth direction discipline refl)
others_leave p at (ReadSampling id) reply no_sampling no_queuing no_read no_mode = absurd (no_read id refl)
others_leave p at (SetMode mode) reply no_sampling no_queuing no_read no_mode = absurd (no_mode mode refl)
others_leave p at call reply no_sampling no_queuing no_read no_mode = leaves_partition p at call reply refl refl (λ _. refl) p
