-- Saved ports are the same if and only if their bytes are.
use Rattle.apex_ports.proofs.Common.{◌≡◌, ◌≢◌, ℕ, suc, ◌^◌, List, [], ◌++◌, length, Some, Option, Bool, sym, ap, ◌∙◌, arith, append-nil, slice_get, slice_get_within, Configuration, PortState, state_at, created_in, last_in, History, EachOf, HasAsManyPorts, IsSameTable, IsSavedKept, nat_tests}
use Rattle.std.proofs.Common.{◌↔◌, IsTrue}
use Rattle.std.proofs.lemmas.Slice.Eq.{bytes_eq-Decides}
use Rattle.std.specs.Str.{bytes_eq}
use Rattle.std.specs.List.{flat_map}
use Rattle.std.specs.declared.vec.Vec.{Vec}
use Rattle.apex_ports.specs.Packed.{packed_number, packed_partition, packed_channel}
use Rattle.apex_ports.specs.SameSaved.{IsSameSaved}
use Rattle.apex_ports.proofs.PackedItems.{item_at, same_items}
use Rattle.apex_ports.proofs.Apart.{lists_apart, lists_same, AreBelow, IsEqual, numbers_apart, port, partitions_apart, partitions_same, AreAlike, IsSameContent, channels_apart, channels_same}

next_state : (xs : List PortState) (k : ℕ) → state_at xs (suc k) ≡ slice_get xs k
next_state xs k = let apart : suc k ≢ 0 = omega arith in grind (arith, nat_tests)

-- ports that show the same at each identifier are the same
ports_at : (x y : List PortState) → length y ≡ length x → ((id : ℕ) → created_in (state_at y id) ≡ created_in (state_at x id)) → ((id : ℕ) → last_in (state_at y id) ≡ last_in (state_at x id)) → y ≡ x
ports_at x y count created last = same_items x y (record { count = count; each = λ k u v at listed. alike k u v at listed })
  where
    alike : (k : ℕ) (u v : PortState) → slice_get x k ≡ Some u → slice_get y k ≡ Some v → v ≡ u
    alike k u v at listed =
        let mine : state_at x (suc k) ≡ Some u = next_state x k ∙ at in
        let its : state_at y (suc k) ≡ Some v = next_state y k ∙ listed in
        let made : v.created ≡ u.created = sym (ap (λ (o : Option PortState). created_in o) its) ∙ (created (suc k) ∙ ap (λ (o : Option PortState). created_in o) mine) in
        let shown : v.last ≡ u.last = sym (ap (λ (o : Option PortState). last_in o) its) ∙ (last (suc k) ∙ ap (λ (o : Option PortState). last_in o) mine) in
        λ i. port (made i) (shown i)

module _ {A : Type 0} (config : Configuration) (h other : History) (bytes bytes_too : Vec ℕ A) (mine : IsSavedKept config h bytes) (its : IsSavedKept config other bytes_too) where
  tables_fit : EachOf HasAsManyPorts mine.partitions its.partitions
  tables_fit = record {
    count = its.kept.all_partitions ∙ sym mine.kept.all_partitions;
    each = λ p x y at listed. (its.kept.each_partition p y listed).ports ∙ sym (mine.kept.each_partition p x at).ports;
  }

  channels_fit : EachOf AreAlike mine.channels its.channels
  channels_fit = record {
    count = its.kept.all_channels ∙ sym mine.kept.all_channels;
    each = λ c x y at listed. record {
      kind = (its.kept.each_channel c y listed).kind ∙ sym (mine.kept.each_channel c x at).kind;
      packable = mine.packable c x at;
      packable_too = its.packable c y listed;
    };
  }

  calls_fit : EachOf (AreBelow (2 ^ 64)) mine.calls its.calls
  calls_fit = record {
    count = its.counted.all ∙ sym mine.counted.all;
    each = λ p n m at listed. let is = mine.counted.each p n at in let is_too = its.counted.each p m listed in (omega (arith, is), omega (arith, is_too));
  }

  -- what the saved states say of two equal pieces of bytes
  record AreSameStates : Type 0 where
    pub tables : EachOf IsSameTable mine.partitions its.partitions
    pub channels : EachOf IsSameContent mine.channels its.channels
    pub calls : EachOf IsEqual mine.calls its.calls

  states_from_bytes : bytes.items ≡ bytes_too.items → AreSameStates
  states_from_bytes e =
      let calls_of_mine = flat_map packed_number mine.calls in
      let calls_of_its = flat_map packed_number its.calls in
      let behind = flat_map packed_channel mine.channels ++ calls_of_mine in
      let behind_too = flat_map packed_channel its.channels ++ calls_of_its in
      let one = lists_apart packed_partition HasAsManyPorts IsSameTable partitions_apart mine.partitions its.partitions behind behind_too tables_fit (sym mine.packed ∙ (e ∙ its.packed)) in
      let two = lists_apart packed_channel AreAlike IsSameContent channels_apart mine.channels its.channels calls_of_mine calls_of_its channels_fit one.1 in
      let ends : calls_of_mine ++ [] ≡ calls_of_its ++ [] = append-nil calls_of_mine ∙ (two.1 ∙ sym (append-nil calls_of_its)) in
      let three = lists_apart packed_number (AreBelow (2 ^ 64)) IsEqual numbers_apart mine.calls its.calls [] [] calls_fit ends in
      record { tables = one.0; channels = two.0; calls = three.0 }

  bytes_from_states : AreSameStates → bytes.items ≡ bytes_too.items
  bytes_from_states same =
      let one = lists_same packed_partition IsSameTable partitions_same mine.partitions its.partitions same.tables in
      let two = lists_same packed_channel IsSameContent channels_same mine.channels its.channels same.channels in
      let three = lists_same packed_number IsEqual (λ n m e. ap packed_number (sym e)) mine.calls its.calls same.calls in
      mine.packed ∙ ((λ i. one i ++ (two i ++ three i)) ∙ sym its.packed)

  saved_from_states : AreSameStates → IsSameSaved config h other
  saved_from_states same = record {
    partitions = λ p below.
        let all = mine.kept.all_partitions in
        let all_too = its.kept.all_partitions in
        let counts = mine.counted.all in
        let counts_too = its.counted.all in
        let x = item_at mine.partitions p (omega (arith, below, all)) in
        let y = item_at its.partitions p (omega (arith, below, all_too)) in
        let n = item_at mine.calls p (omega (arith, below, counts)) in
        let m = item_at its.calls p (omega (arith, below, counts_too)) in
        let table = same.tables.each p x.0 y.0 x.1 y.1 in
        let kept = mine.kept.each_partition p x.0 x.1 in
        let kept_too = its.kept.each_partition p y.0 y.1 in
        record {
          mode = sym kept.mode ∙ (sym table.mode ∙ kept_too.mode);
          created = λ id. sym (kept.created id) ∙ (ap (λ (ports : List PortState). created_in (state_at ports id)) (sym table.ports) ∙ kept_too.created id);
          last = λ id. sym (kept.last id) ∙ (ap (λ (ports : List PortState). last_in (state_at ports id)) (sym table.ports) ∙ kept_too.last id);
          calls = sym (mine.counted.each p n.0 n.1) ∙ (sym (same.calls.each p n.0 m.0 n.1 m.1) ∙ its.counted.each p m.0 m.1);
        };
    channels = λ c below.
        let all = mine.kept.all_channels in
        let all_too = its.kept.all_channels in
        let x = item_at mine.channels c (omega (arith, below, all)) in
        let y = item_at its.channels c (omega (arith, below, all_too)) in
        let content = same.channels.each c x.0 y.0 x.1 y.1 in
        let kept = mine.kept.each_channel c x.0 x.1 in
        let kept_too = its.kept.each_channel c y.0 y.1 in
        record {
          waiting = sym kept.waiting ∙ (sym content.waiting ∙ kept_too.waiting);
          sample = sym kept.sample ∙ (sym content.sample ∙ kept_too.sample);
          accepted = sym kept.accepted ∙ (sym content.accepted ∙ kept_too.accepted);
          received = sym kept.received ∙ (sym content.received ∙ kept_too.received);
          cleared = sym kept.cleared ∙ (sym content.cleared ∙ kept_too.cleared);
        };
  }

  states_from_saved : IsSameSaved config h other → AreSameStates
  states_from_saved same = record {
    tables = record {
      count = tables_fit.count;
      each = λ p x y at listed.
          let all = mine.kept.all_partitions in
          let inside = slice_get_within mine.partitions p x at in
          let both = same.partitions p (omega (arith, inside, all)) in
          let kept = mine.kept.each_partition p x at in
          let kept_too = its.kept.each_partition p y listed in
          record {
            mode = kept_too.mode ∙ (sym both.mode ∙ sym kept.mode);
            ports = ports_at x.ports.items y.ports.items (kept_too.ports ∙ sym kept.ports)
                (λ id. kept_too.created id ∙ (sym (both.created id) ∙ sym (kept.created id)))
                (λ id. kept_too.last id ∙ (sym (both.last id) ∙ sym (kept.last id)));
          };
    };
    channels = record {
      count = channels_fit.count;
      each = λ c x y at listed.
          let all = mine.kept.all_channels in
          let inside = slice_get_within mine.channels c x at in
          let both = same.channels c (omega (arith, inside, all)) in
          let kept = mine.kept.each_channel c x at in
          let kept_too = its.kept.each_channel c y listed in
          record {
            kind = kept_too.kind ∙ sym kept.kind;
            waiting = kept_too.waiting ∙ (sym both.waiting ∙ sym kept.waiting);
            sample = kept_too.sample ∙ (sym both.sample ∙ sym kept.sample);
            accepted = kept_too.accepted ∙ (sym both.accepted ∙ sym kept.accepted);
            received = kept_too.received ∙ (sym both.received ∙ sym kept.received);
            cleared = kept_too.cleared ∙ (sym both.cleared ∙ sym kept.cleared);
          };
    };
    calls = record {
      count = calls_fit.count;
      each = λ p n m at listed.
          let all = mine.counted.all in
          let inside = slice_get_within mine.calls p n at in
          let both = same.partitions p (omega (arith, inside, all)) in
          its.counted.each p m listed ∙ (sym both.calls ∙ sym (mine.counted.each p n at));
    };
  }

  -- the bytes are equal if and only if the saved parts are
  pub same_bytes : (bytes.items ≡ bytes_too.items) ↔ IsSameSaved config h other
  same_bytes = (λ e. saved_from_states (states_from_bytes e), λ same. bytes_from_states (states_from_saved same))

-- a test that compares the bytes decides what holds if and only if they are equal
pub compared : (r : Bool) (xs ys mine its : List ℕ) (P : Type 0) → r ≡ bytes_eq xs ys → xs ≡ mine → ys ≡ its → ((mine ≡ its) ↔ P) → IsTrue r ↔ P
compared r xs ys mine its P e is is_too same =
    let decides = bytes_eq-Decides xs ys in
    (λ holds. same.0 (sym is ∙ (decides.0 (sym e ∙ holds) ∙ is_too)), λ p. e ∙ decides.1 (is ∙ (same.1 p ∙ sym is_too)))
