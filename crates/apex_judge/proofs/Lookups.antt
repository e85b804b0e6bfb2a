-- What a state that is shown says at one index.
use Rattle.apex_judge.proofs.Common.{◌≡◌, ◌≢◌, ℕ, ◌<◌, ◌≤◌, ◌-◌, ◌==◌, Bool, true, false, if◌then◌else◌, List, ◌++◌, take, set, length, length-set, get_or, Option, Some, None, refl, sym, ap, ◌∙◌, arith, slice_get, nat_tests, get_or-set_same, get_or-set_other, slice_get-get_or, Configuration, at_index, PartitionState, ChannelState, Picture, AreShown, IsPartitionShown, IsChannelShown, state_at}
use Rattle.std.proofs.Math.Seq.{take-append_seam}
use Rattle.apex_judge.specs.declared.partition.PortState.{PortState}

-- a list, of which a longer one takes as many
pub whole : {X : Type 0} (new rest : List X) (n : ℕ) → length new ≡ n → take n (new ++ rest) ≡ new
whole new rest n len = ap (λ k. take k (new ++ rest)) (sym len) ∙ take-append_seam new rest

-- ---- the state of a port, where one is set

set_same : {X : Type 0} (xs : List X) (i : ℕ) (y : X) → i < length xs → slice_get (set xs i y) i ≡ Some y
set_same xs i y within =
    let count = length-set xs i y in
    slice_get-get_or (set xs i y) i y (omega (arith, count)) ∙ ap Some (get_or-set_same xs i y y within)

set_other : {X : Type 0} (xs : List X) (i j : ℕ) (y : X) → j ≢ i → j < length xs → slice_get (set xs i y) j ≡ slice_get xs j
set_other xs i j y apart within =
    let count = length-set xs i y in
    slice_get-get_or (set xs i y) j y (omega (arith, count)) ∙ (ap Some (get_or-set_other xs i j y y apart) ∙ sym (slice_get-get_or xs j y within))

pub state_set : (states : List PortState) (id other : ℕ) (port : PortState) → 0 < id → id ≤ length states → 0 < other → other ≤ length states
    → state_at (set states (id - 1) port) other ≡ (if other == id then Some port else state_at states other)
state_set states id other port first last some within = by_test (other == id) refl
  where
    from : List PortState → (b : Bool) → Option PortState
    from xs b = if b then None else slice_get xs (other - 1)

    there : (other == 0) ≡ false
    there = grind (arith, nat_tests)

    by_test : (b : Bool) → (other == id) ≡ b → state_at (set states (id - 1) port) other ≡ (if b then Some port else state_at states other)
    by_test true same =
        let is : other ≡ id = grind (arith, nat_tests) in
        ap (from (set states (id - 1) port)) there ∙ (ap (λ (k : ℕ). slice_get (set states (id - 1) port) (k - 1)) is ∙ set_same states (id - 1) port (omega arith))
    by_test false differ =
        let apart : other - 1 ≢ id - 1 = λ same. let is : other ≡ id = omega arith in let yes : (other == id) ≡ true = grind (arith, nat_tests) in absurd (cc) in
        ap (from (set states (id - 1) port)) there ∙ (set_other states (id - 1) (other - 1) port apart (omega arith) ∙ sym (ap (from states) there))

-- ---- the state at an index

module _ {A : Type 0} (config : Configuration) (picture : Picture) (partitions : List (PartitionState A)) (channels : List (ChannelState A)) where
  -- the state at an index
  pub partition_at : AreShown config picture partitions channels → (p : ℕ) (state : PartitionState A) → p < length config.partitions → state ≡ get_or partitions p state → IsPartitionShown config picture p state
  partition_at shown p state within is =
      let all = shown.all_partitions in
      let inside : p < length partitions = omega arith in
      shown.each_partition p state (at_index partitions p state inside is)

  pub channel_at : AreShown config picture partitions channels → (c : ℕ) (state : ChannelState A) → c < length config.channels → state ≡ get_or channels c state → IsChannelShown picture c state
  channel_at shown c state within is =
      let all = shown.all_channels in
      let inside : c < length channels = omega arith in
      shown.each_channel c state (at_index channels c state inside is)
