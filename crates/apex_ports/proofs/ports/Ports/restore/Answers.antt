use Rattle.apex_ports.proofs.Common.{◌≡◌, ℕ, List, length, sym, ap, ◌∙◌, subst, with_items_is, Configuration, ChannelState, PartitionState, History, AreKept, AreCounted, PortsView, EachOf, Reads, HasAsManyPorts, IsSameTable, HasRoomFor, AreCounts, IsSavedKept, IsSound}
use Rattle.std.specs.List.{flat_map}
use Rattle.apex_ports.specs.Packed.{packed_number, packed_partition, packed_channel}
use Rattle.apex_ports.proofs.Restoring.{all_restored}
use Rattle.apex_ports.proofs.ports.Ports.restore.Goals as goal

abbrev config_of : PortsView → Configuration
config_of ports = ports.config

pub invariant_of-self : goal.invariant_of-self
invariant_of-self g c =
    let same : c.saved.inside.config.value ≡ c.self.inside.config = ap config_of c.saved.view_is ∙ (c.requires ∙ sym (ap config_of c.self.view_is)) in
    let config = c.self.inside.config in
    let h = c.saved.inside.history in
    let saved = subst (λ (x : Configuration). IsSavedKept x h c.saved.inside.bytes) same c.saved.invariant in
    let partitions = c.restore_partitions.new.partitions in
    let channels = c.restore_channels.new.channels in
    let calls = c.restore_calls.new.calls in
    let first = subst (λ (x : List (PartitionState g.row.A.Denot)). Reads (flat_map packed_partition) (EachOf HasAsManyPorts x) (λ all. EachOf IsSameTable all partitions) c.new-reader.result c.restore_partitions.new.reader)
    c.as_mut_slice.ensures.value c.restore_partitions.ensures in
    let second = subst (λ (x : List (ChannelState g.row.A.Denot)). Reads (flat_map packed_channel) (EachOf HasRoomFor x) (λ all. channels ≡ all) c.restore_partitions.new.reader c.restore_channels.new.reader)
    c.as_mut_slice-2.ensures.value c.restore_channels.ensures in
    let third = subst (λ (x : List ℕ). Reads (flat_map packed_number) (AreCounts x) (λ all. calls ≡ all) c.restore_channels.new.reader c.restore_calls.new.reader)
    c.as_mut_slice-3.ensures.value c.restore_calls.ensures in
    let all = all_restored config h c.self.inside.state.history c.saved.inside.bytes saved c.self.inside.state.partitions.items c.self.inside.state.channels.items c.self.inside.calls.items c.self.invariant.kept c.self.invariant.counted
    c.new-reader.result c.restore_partitions.new.reader c.restore_channels.new.reader c.restore_calls.new.reader partitions channels calls (c.new-reader.ensures ∙ c.as_slice.ensures.value) first second third in
    let partitions_are = with_items_is c.self.inside.state.partitions partitions
    (c.restore_partitions.auto.partitions ∙ (ap (λ (x : List (PartitionState g.row.A.Denot)). length x) c.as_mut_slice.ensures.value ∙ sym c.self.inside.state.partitions.ok.0)) in
    let channels_are = with_items_is c.self.inside.state.channels channels
    (c.restore_channels.auto.channels ∙ (ap (λ (x : List (ChannelState g.row.A.Denot)). length x) c.as_mut_slice-2.ensures.value ∙ sym c.self.inside.state.channels.ok.0)) in
    let calls_are = with_items_is c.self.inside.calls calls
    (c.restore_calls.auto.calls ∙ (ap (λ (x : List ℕ). length x) c.as_mut_slice-3.ensures.value ∙ sym c.self.inside.calls.ok.0)) in
    record {
      sound = subst (IsSound config) (sym c.copy-self-inside.ensures) saved.sound;
      kept = subst (λ (x : History × List (PartitionState g.row.A.Denot) × List (ChannelState g.row.A.Denot)). AreKept config x.0 x.1 x.2)
          (λ i. (sym c.copy-self-inside.ensures i, sym partitions_are i, sym channels_are i)) all.kept;
      counted = subst (λ (x : History × List ℕ). AreCounted config x.0 x.1) (λ i. (sym c.copy-self-inside.ensures i, sym calls_are i)) all.counted;
    }

pub returns-clause-restored : goal.returns-clause-restored
returns-clause-restored g c =
    let same : c.saved.inside.config.value ≡ c.self.inside.config = ap config_of c.saved.view_is ∙ (c.requires ∙ sym (ap config_of c.self.view_is)) in
    (λ i. record { config = sym same i; history = c.copy-self-inside.ensures i }) ∙ c.saved.view_is
