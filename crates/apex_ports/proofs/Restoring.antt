-- What is saved is read back by ports of the same configuration.
use Rattle.apex_ports.proofs.Common.{◌≡◌, ℕ, List, [], ◌++◌, length, sym, ap, ◌∙◌, subst, arith, append-nil, Configuration, PortState, PartitionState, ChannelState, state_at, created_in, last_in, History, EachAt, IsPartitionKept, IsChannelKept, AreKept, AreCounted, EachOf, Reads, HasAsManyPorts, IsSameTable, HasRoomFor, AreCounts, IsSavedKept}
use Rattle.std.specs.List.{flat_map}
use Rattle.std.specs.declared.vec.Vec.{Vec}
use Rattle.apex_ports.specs.Packed.{packed_number, packed_partition, packed_channel}
use Rattle.apex_ports.proofs.PackedItems.{each_along}

-- a partition follows from the history as the saved one does
table_kept : {A : Type 0} (config : Configuration) (h : History) (p : ℕ) (saved state : PartitionState A) → IsPartitionKept config h p saved → IsSameTable saved state → IsPartitionKept config h p state
table_kept config h p saved state kept same = record {
  mode = same.mode ∙ kept.mode;
  ports = ap (λ (ports : List PortState). length ports) same.ports ∙ kept.ports;
  created = λ id. ap (λ (ports : List PortState). created_in (state_at ports id)) same.ports ∙ kept.created id;
  last = λ id. ap (λ (ports : List PortState). last_in (state_at ports id)) same.ports ∙ kept.last id;
}

-- what is restored follows from the history that was saved
pub record IsRestored {A : Type 0} (config : Configuration) (h : History) (partitions : List (PartitionState A)) (channels : List (ChannelState A)) (calls : List ℕ) : Type 0 where
  pub kept : AreKept config h partitions channels
  pub counted : AreCounted config h calls

module _ {A : Type 0} (config : Configuration) (h now : History) (bytes : Vec ℕ A) (saved : IsSavedKept config h bytes) (partitions : List (PartitionState A)) (channels : List (ChannelState A)) (calls : List ℕ) (kept : AreKept config now partitions channels) (counted : AreCounted config now calls) where
  partitions_fit : EachOf HasAsManyPorts partitions saved.partitions
  partitions_fit = record {
    count = saved.kept.all_partitions ∙ sym kept.all_partitions;
    each = λ p state one at listed. (saved.kept.each_partition p one listed).ports ∙ sym (kept.each_partition p state at).ports;
  }

  channels_fit : EachOf HasRoomFor channels saved.channels
  channels_fit = record {
    count = saved.kept.all_channels ∙ sym kept.all_channels;
    each = λ c state one at listed.
        let mine = kept.each_channel c state at in
        let its = saved.kept.each_channel c one listed in
        record { kind = mine.kind ∙ sym its.kind; depth = mine.depth ∙ sym its.depth; size = mine.size ∙ sym its.size; packable = saved.packable c one listed };
  }

  calls_fit : AreCounts calls saved.calls
  calls_fit = record {
    count = saved.counted.all ∙ sym counted.all;
    each = λ p was n at listed. let is = saved.counted.each p n listed in omega (arith, is);
  }

  pub all_restored : (start behind_partitions behind_channels end : List ℕ) (new_partitions : List (PartitionState A)) (new_channels : List (ChannelState A)) (new_calls : List ℕ) → start ≡ bytes.items
      → Reads (flat_map packed_partition) (EachOf HasAsManyPorts partitions) (λ all. EachOf IsSameTable all new_partitions) start behind_partitions
      → Reads (flat_map packed_channel) (EachOf HasRoomFor channels) (λ all. new_channels ≡ all) behind_partitions behind_channels
      → Reads (flat_map packed_number) (AreCounts calls) (λ all. new_calls ≡ all) behind_channels end
      → IsRestored config h new_partitions new_channels new_calls
  all_restored start behind_partitions behind_channels end new_partitions new_channels new_calls starts first second third =
      let channel_bytes = flat_map packed_channel saved.channels in
      let call_bytes = flat_map packed_number saved.calls in
      let tables = first saved.partitions (channel_bytes ++ call_bytes) partitions_fit (starts ∙ saved.packed) in
      let queues = second saved.channels call_bytes channels_fit tables.1 in
      let counts = third saved.calls [] calls_fit (queues.1 ∙ sym (append-nil call_bytes)) in
      record {
        kept = record {
          all_partitions = tables.0.count ∙ saved.kept.all_partitions;
          all_channels = ap (λ (all : List (ChannelState A)). length all) queues.0 ∙ saved.kept.all_channels;
          each_partition = each_along (IsPartitionKept config h) (IsPartitionKept config h) IsSameTable saved.partitions new_partitions tables.0 saved.kept.each_partition (table_kept config h);
          each_channel = subst (λ (all : List (ChannelState A)). EachAt (IsChannelKept config h) all) (sym queues.0) saved.kept.each_channel;
        };
        counted = subst (AreCounted config h) (sym counts.0) saved.counted;
      }
