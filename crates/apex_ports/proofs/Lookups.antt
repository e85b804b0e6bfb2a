-- What a state says at one index, if it follows from its history.
use Rattle.apex_ports.proofs.Common.{◌≡◌, ℕ, ◌<◌, ◌≤◌, ◌-◌, ◌==◌, Bool, true, false, if◌then◌else◌, List, length, get_or, Bor, Option, Some, None, refl, sym, ap, ◌∙◌, arith, slice_get, option_copied, nat_tests, slice_get-get_or, slice_get_within, Sample, Configuration, IsConfiguration, ports_of, port_of, channel_of, IsDepth, depth_of_kind, PartitionState, ChannelState, waiting_in, History, Port, waiting_on}
use Rattle.apex_ports.proofs.Common.{IsIdentifier, depth_of, depth_in, IsSampleBy, AreKept, IsPartitionKept, IsChannelKept}
use Rattle.apex_module.specs.declared.channel.Channel.{Channel}
use Rattle.apex_module.specs.declared.channel.ChannelKind.{ChannelKind}
use Rattle.apex_module.specs.declared.channel.ChannelKind.TheVariants.{Queuing, Sampling}
use Rattle.apex_module.specs.declared.limits.TheConstants.{DEPTH_LIMIT}
use Rattle.apex_ports.specs.declared.noted.SampleRef.{SampleRef}

-- the item at an index
pub at_index : {X : Type 0} (xs : List X) (k : ℕ) (x : X) → k < length xs → x ≡ get_or xs k x → slice_get xs k ≡ Some x
at_index xs k x within is = slice_get-get_or xs k x within ∙ ap Some (sym is)

-- an item that doesn't exist is not lent
pub nothing_lent : {X : Type 0} (lent : Option (Bor X)) → option_copied lent ≡ None → lent ≡ None
nothing_lent None e = refl
nothing_lent (Some x) e = absurd (cc)

-- no sample is lent if none is held
pub no_sample : (held : Option Sample) (lent : Option SampleRef) → IsSampleBy held lent → held ≡ None → lent ≡ None
no_sample held None is none = refl
no_sample held (Some sample) is none = absurd (cc)

-- a configured port has an index in its partition's list
pub is_identifier : (config : Configuration) (p id : ℕ) (port : Port) → port_of config p id ≡ Some port → IsIdentifier (ports_of config p) id
is_identifier config p id port found = by_test (id == 0) refl found
  where
    by_test : (b : Bool) → (id == 0) ≡ b → ◌≡◌ {A = Option Port} (if b then None else slice_get (ports_of config p) (id - 1)) (Some port) → IsIdentifier (ports_of config p) id
    by_test true zero h = absurd (cc)
    by_test false some h =
        let within = slice_get_within (ports_of config p) (id - 1) port h in
        let positive : 0 < id = grind (arith, nat_tests) in
        record { first = positive; last = omega arith }

-- the number of waiting messages is that of the history
pub waiting_count_is : {A : Type 0} (config : Configuration) (history : History) (c : ℕ) (state : ChannelState A) → IsChannelKept config history c state
    → length (waiting_in state) ≡ length (waiting_on config c history)
waiting_count_is config history c state kept = ap (λ (xs : List (List ℕ)). length xs) kept.waiting

depth_in_small : (channel : Option Channel) → ((c : Channel) → channel ≡ Some c → IsDepth c.kind) → depth_in channel ≤ DEPTH_LIMIT
depth_in_small None limit = omega arith
depth_in_small (Some channel) limit = of_kind channel.kind (limit channel refl)
  where
    of_kind : (kind : ChannelKind) → IsDepth kind → depth_of_kind kind ≤ DEPTH_LIMIT
    of_kind (Queuing depth) limit = limit.1
    of_kind Sampling limit = omega arith

-- no depth is above the limit
pub depth_small : (config : Configuration) (c : ℕ) → IsConfiguration config → depth_of config c ≤ DEPTH_LIMIT
depth_small config c valid = depth_in_small (channel_of config c) (valid.depth c)

module _ {A : Type 0} (config : Configuration) (history : History) (partitions : List (PartitionState A)) (channels : List (ChannelState A)) where
  -- the state at an index
  pub partition_at : AreKept config history partitions channels → (p : ℕ) (state : PartitionState A) → p < length config.partitions → state ≡ get_or partitions p state → IsPartitionKept config history p state
  partition_at kept p state within is =
      let all = kept.all_partitions in
      let inside : p < length partitions = omega arith in
      kept.each_partition p state (at_index partitions p state inside is)

  pub channel_at : AreKept config history partitions channels → (c : ℕ) (state : ChannelState A) → c < length config.channels → state ≡ get_or channels c state → IsChannelKept config history c state
  channel_at kept c state within is =
      let all = kept.all_channels in
      let inside : c < length channels = omega arith in
      kept.each_channel c state (at_index channels c state inside is)
