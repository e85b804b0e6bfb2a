-- Equal points have the same hash.
use Rattle.apex_orders.proofs.Common.{◌≡◌, ℕ, zero, suc, ◌+◌, ◌≤◌, length, refl, arith, Configuration, ports_of, History, IsIdentifier, IsSamePorts, mix, calls_below, shown_below, all_shown_below, shown_hash, messages_hash, channels_below, hash_of, IsSamePoint, IsSameCalls}
use Rattle.apex_types.specs.Validity.{number_of}

module _ (config : Configuration) (h other : History) where
  same_calls_below : (n : ℕ) → n ≤ length config.partitions → IsSameCalls config h other → calls_below n h ≡ calls_below n other
  same_calls_below zero within same = refl
  same_calls_below (suc p) within same = λ i. mix (same_calls_below p (omega arith) same i) (same p (omega arith) i)

  same_shown : (p hash hash_too n : ℕ) → hash ≡ hash_too → n ≤ length (ports_of config p) → IsSamePorts config h other p
      → shown_below config h p hash n ≡ shown_below config other p hash_too n
  same_shown p hash hash_too zero is within same = is
  same_shown p hash hash_too (suc i) is within same =
      let known : IsIdentifier (ports_of config p) (i + 1) = record { first = omega arith; last = omega arith } in
      λ j. mix (same_shown p hash hash_too i is (omega arith) same j) (number_of (same.last (i + 1) known j))

  same_all_shown : (n : ℕ) → n ≤ length config.partitions → IsSamePoint config h other → all_shown_below config h n ≡ all_shown_below config other n
  same_all_shown zero within same = same_calls_below (length config.partitions) (omega arith) same.calls
  same_all_shown (suc p) within same =
      same_shown p (all_shown_below config h p) (all_shown_below config other p) (length (ports_of config p)) (same_all_shown p (omega arith) same) (omega arith)
      (same.state.partitions p (omega arith)).ports

  same_channels_below : (n : ℕ) → n ≤ length config.channels → IsSamePoint config h other
      → channels_below config (shown_hash config h) n h ≡ channels_below config (shown_hash config other) n other
  same_channels_below zero within same = same_all_shown (length config.partitions) (omega arith) same
  same_channels_below (suc c) within same =
      let counts = same.counts c (omega arith) in
      let messages = (same.state.channels c (omega arith)).waiting in
      λ i. messages_hash (mix (mix (same_channels_below c (omega arith) same i) (counts.accepted i)) (counts.received i)) (messages i)

  pub same_hash : IsSamePoint config h other → hash_of config h ≡ hash_of config other
  same_hash same = same_channels_below (length config.channels) (omega arith) same
