use Rattle.apex_ports.proofs.Common.{◌≡◌, ℕ, List, [], ◌++◌, sym, ap, ◌∙◌, subst, append_assoc, Configuration, ChannelState, History, EachAt, AreKept, AreCounted, IsPackable, IsSound}
use Rattle.std.specs.List.{flat_map}
use Rattle.apex_ports.specs.Packed.{packed_number, packed_partition, packed_channel}
use Rattle.apex_ports.proofs.ports.Ports.save_in.Goals as goal

-- three pieces of bytes stand behind none
joined : (empty x y z one two three : List ℕ) → empty ≡ [] → one ≡ empty ++ x → two ≡ one ++ y → three ≡ two ++ z → three ≡ x ++ (y ++ z)
joined empty x y z one two three none first second third =
    third ∙ (ap (λ l. l ++ z) (second ∙ ap (λ l. l ++ y) (first ∙ ap (λ l. l ++ x) none)) ∙ append_assoc x y z)

pub invariant_of-result : goal.invariant_of-result
invariant_of-result g c =
    let partitions = c.self.inside.state.partitions.items in
    let channels = c.self.inside.state.channels.items in
    let calls = c.self.inside.calls.items in
    record {
      partitions = partitions;
      channels = channels;
      calls = calls;
      sound = subst (λ (x : Configuration × History). IsSound x.0 x.1) (λ i. (sym c.of.ensures i, sym c.copy.ensures i)) c.self.invariant.sound;
      kept = subst (λ (x : Configuration × History). AreKept x.0 x.1 partitions channels) (λ i. (sym c.of.ensures i, sym c.copy.ensures i)) c.self.invariant.kept;
      packable = subst (λ (all : List (ChannelState g.row.A.Denot)). EachAt (λ _ state. IsPackable state) all) c.as_slice-2.ensures.value c.in_ok-save_channels.ensures.packable;
      counted = subst (λ (x : Configuration × History). AreCounted x.0 x.1 calls) (λ i. (sym c.of.ensures i, sym c.copy.ensures i)) c.self.invariant.counted;
      packed =
          joined c.reserve_exact.new.self.items (flat_map packed_partition c.as_slice.result.now) (flat_map packed_channel c.as_slice-2.result.now) (flat_map packed_number c.as_slice-3.result.now)
          c.save_partitions.new.bytes.items c.save_channels.new.bytes.items c.save_calls.new.bytes.items
          (c.in_ok-reserve_exact.ensures.items ∙ c.clear.ensures.items) c.in_ok-save_partitions.ensures c.in_ok-save_channels.ensures.saved c.in_ok-save_calls.ensures
          ∙ (λ i. flat_map packed_partition (c.as_slice.ensures.value i) ++ (flat_map packed_channel (c.as_slice-2.ensures.value i) ++ flat_map packed_number (c.as_slice-3.ensures.value i)));
    }
