-- What a send, a receive, a clear and a write do to the state of a channel.
use Rattle.apex_ports.proofs.Common.{◌≡◌, ◌≢◌, ◌<◌, ⊎_elim, ℕ, ◌+◌, ◌-◌, ◌^◌, true, false, if◌then◌else◌, min, List, [], ◌∷◌, ◌++◌, length, drop, map, set, Option, Some, None, refl, sym, ap, ◌∙◌, arith, slice_get, SendQueuing, ReceiveQueuing, ClearQueuing, WriteSampling, Moment, Code, Received, NoError, length-map, Configuration, port_of, Port, Entry, PartitionState, ChannelState, has_queue, waiting_in, ring_depth}
use Rattle.apex_ports.proofs.Common.{message_size, accepted_in, received_in, cleared_in, sample_in, count_of, History, entry_of, is_source_of, is_destination_of, accepted_on, received_on, cleared_on, waiting_on, message_accepted, message_received, clears, as_cleared, sample_at, IsChannelKept, AreKept, oldest_reply, IsConserved}
use Rattle.apex_ports.specs.declared.channel.ChannelState.TheVariants.{Queuing, Sampling}
use Rattle.apex_ports.specs.Slots.{slot}
use Rattle.apex_ports.proofs.Counts.{count-push, count-append}
use Rattle.apex_ports.proofs.Histories.{accepted-sent, received-received, cleared-received, cleared-cleared, waiting-sent, waiting-received, waiting-cleared}
use Rattle.apex_ports.proofs.OneChannel.{LiesElsewhere, port_elsewhere, sends_elsewhere, receives_elsewhere, clears_elsewhere, writes_elsewhere}
use Rattle.apex_ports.proofs.Stays.{leaves_partition, leaves_channel, channel_changes, accepted_stays, received_stays, cleared_stays, waiting_stays, sample_stays, sample_changes}

-- a port of a channel is on no other channel
source_elsewhere : (port : Option Port) (c d : ℕ) → is_source_of c port ≡ true → d ≢ c → LiesElsewhere d port
source_elsewhere port c d source apart =
    ⊎_elim (λ (off : LiesElsewhere d port). off) (λ (off : LiesElsewhere c port). let none = off.source in absurd (cc)) (port_elsewhere port d c apart)

destination_elsewhere : (port : Option Port) (c d : ℕ) → is_destination_of c port ≡ true → d ≢ c → LiesElsewhere d port
destination_elsewhere port c d destination apart =
    ⊎_elim (λ (off : LiesElsewhere d port). off) (λ (off : LiesElsewhere c port). let none = off.destination in absurd (cc)) (port_elsewhere port d c apart)

-- the oldest message, if one waits
pub oldest_of : (xs : List (List ℕ)) → 0 < length xs → (m : List ℕ) × (slice_get xs 0 ≡ Some m) × (oldest_reply xs ≡ Received m)
oldest_of [] some = absurd (omega arith)
oldest_of (x ∷ xs) some = (x, refl, refl)

module _ {A : Type 0} (config : Configuration) (h : History) (partitions : List (PartitionState A)) (channels : List (ChannelState A)) (p : ℕ) (at : Moment) (id c : ℕ) (m : List ℕ) (old new : ChannelState A) where
  -- the state after an accepted send
  pub sent_keeps : AreKept config h partitions channels → IsConserved config h c → is_source_of c (port_of config p id) ≡ true → IsChannelKept config h c old
      → waiting_in new ≡ waiting_in old ++ m ∷ [] → ring_depth new ≡ ring_depth old → message_size new ≡ message_size old → accepted_in new ≡ min (accepted_in old + 1) (2 ^ 64 - 1) → received_in new ≡ received_in old → cleared_in new ≡ cleared_in old → sample_in new ≡ sample_in old → has_queue new ≡ has_queue old
      → AreKept config (h ++ entry_of p at (SendQueuing id m) (Code NoError) ∷ []) partitions (set channels c new)
  sent_keeps kept conserved source was waiting depth size accepted received cleared sample kind =
      channel_changes config h e partitions channels kept c new
      (leaves_partition p at (SendQueuing id m) (Code NoError) refl refl (λ _. refl))
      (λ d apart. leaves_channel config d p at (SendQueuing id m) (Code NoError) (sends_elsewhere config d p id m (source_elsewhere (port_of config p id) c d source apart)))
      (record {
        kind = kind ∙ was.kind;
        waiting = waiting ∙ (ap (λ xs. xs ++ m ∷ []) was.waiting ∙ sym (waiting-sent config c h e conserved m sent refl refl));
        depth = depth ∙ was.depth;
        size = size ∙ was.size;
        accepted = accepted ∙ (count-push (accepted_on config c h) m (accepted_in old) was.accepted ∙ ap count_of (sym (accepted-sent config c h e m sent)));
        received = received ∙ (was.received ∙ ap count_of (sym (received_stays config c h e refl)));
        cleared = cleared ∙ (was.cleared ∙ ap count_of (sym (cleared_stays config c h e refl refl)));
        sample = sample ∙ (was.sample ∙ sym (sample_stays config h e c refl));
      })
    where
      e : Entry
      e = entry_of p at (SendQueuing id m) (Code NoError)

      sent : message_accepted config c e ≡ Some m
      sent = λ i. if source i then Some m else None

  -- the state after a receive that found a message
  pub received_keeps : AreKept config h partitions channels → IsConserved config h c → is_destination_of c (port_of config p id) ≡ true → IsChannelKept config h c old
      → slice_get (waiting_in old) 0 ≡ Some m → waiting_in new ≡ drop 1 (waiting_in old) → ring_depth new ≡ ring_depth old → message_size new ≡ message_size old → accepted_in new ≡ accepted_in old → received_in new ≡ min (received_in old + 1) (2 ^ 64 - 1) → cleared_in new ≡ cleared_in old → sample_in new ≡ sample_in old → has_queue new ≡ has_queue old
      → AreKept config (h ++ entry_of p at (ReceiveQueuing id) (Received m) ∷ []) partitions (set channels c new)
  received_keeps kept conserved destination was oldest waiting depth size accepted received cleared sample kind =
      channel_changes config h e partitions channels kept c new
      (leaves_partition p at (ReceiveQueuing id) (Received m) refl refl (λ _. refl))
      (λ d apart. leaves_channel config d p at (ReceiveQueuing id) (Received m) (receives_elsewhere config d p id (destination_elsewhere (port_of config p id) c d destination apart)))
      (record {
        kind = kind ∙ was.kind;
        waiting = waiting ∙ (ap (λ (xs : List (List ℕ)). drop 1 xs) was.waiting ∙ sym (waiting-received config c h e conserved m refl received_now refl (ap (λ (xs : List (List ℕ)). slice_get xs 0) (sym was.waiting) ∙ oldest)));
        depth = depth ∙ was.depth;
        size = size ∙ was.size;
        accepted = accepted ∙ (was.accepted ∙ ap count_of (sym (accepted_stays config c h e refl)));
        received = received ∙ (count-push (received_on config c h) m (received_in old) was.received ∙ ap count_of (sym (received-received config c h e m received_now)));
        cleared = cleared ∙ (was.cleared ∙ ap count_of (sym (cleared-received config c h e m received_now refl)));
        sample = sample ∙ (was.sample ∙ sym (sample_stays config h e c refl));
      })
    where
      e : Entry
      e = entry_of p at (ReceiveQueuing id) (Received m)

      received_now : message_received config c e ≡ Some m
      received_now = λ i. if destination i then Some m else None

-- the state after an accepted clear
pub cleared_keeps : {A : Type 0} (config : Configuration) (h : History) (partitions : List (PartitionState A)) (channels : List (ChannelState A)) (p : ℕ) (at : Moment) (id c : ℕ) (old new : ChannelState A)
    → AreKept config h partitions channels → IsConserved config h c → is_destination_of c (port_of config p id) ≡ true → IsChannelKept config h c old
    → waiting_in new ≡ [] → ring_depth new ≡ ring_depth old → message_size new ≡ message_size old → accepted_in new ≡ accepted_in old → received_in new ≡ received_in old → cleared_in new ≡ min (cleared_in old + length (waiting_in old)) (2 ^ 64 - 1) → sample_in new ≡ sample_in old → has_queue new ≡ has_queue old
    → AreKept config (h ++ entry_of p at (ClearQueuing id) (Code NoError) ∷ []) partitions (set channels c new)
cleared_keeps config h partitions channels p at id c old new kept conserved destination was waiting depth size accepted received cleared sample kind =
    channel_changes config h e partitions channels kept c new
    (leaves_partition p at (ClearQueuing id) (Code NoError) refl refl (λ _. refl))
    (λ d apart. leaves_channel config d p at (ClearQueuing id) (Code NoError) (clears_elsewhere config d p id (destination_elsewhere (port_of config p id) c d destination apart)))
    (record {
      kind = kind ∙ was.kind;
      waiting = waiting ∙ sym (waiting-cleared config c h e conserved refl clear);
      depth = depth ∙ was.depth;
      size = size ∙ was.size;
      accepted = accepted ∙ (was.accepted ∙ ap count_of (sym (accepted_stays config c h e refl)));
      received = received ∙ (was.received ∙ ap count_of (sym (received_stays config c h e refl)));
      cleared = cleared ∙ (ap (λ (n : ℕ). min (cleared_in old + n) (2 ^ 64 - 1)) count ∙ (count-append (cleared_on config c h) (map as_cleared (waiting_on config c h)) (cleared_in old) was.cleared ∙ ap count_of (sym (cleared-cleared config c h e clear))));
      sample = sample ∙ (was.sample ∙ sym (sample_stays config h e c refl));
    })
  where
    e : Entry
    e = entry_of p at (ClearQueuing id) (Code NoError)

    clear : clears config c e ≡ true
    clear = destination

    count : length (waiting_in old) ≡ length (map as_cleared (waiting_on config c h))
    count = ap (λ (xs : List (List ℕ)). length xs) was.waiting ∙ sym (length-map (waiting_on config c h) as_cleared)

-- a sampling channel has no queue
no_queue : {A : Type 0} (state : ChannelState A) → has_queue state ≡ false → (waiting_in state ≡ []) × (ring_depth state ≡ 0) × (accepted_in state ≡ 0) × (received_in state ≡ 0) × (cleared_in state ≡ 0)
no_queue (Queuing queue) kind = absurd (cc)
no_queue (Sampling held) kind = (refl, refl, refl, refl, refl)

-- the state after an accepted write
pub written_keeps : {A : Type 0} (config : Configuration) (h : History) (partitions : List (PartitionState A)) (channels : List (ChannelState A)) (p : ℕ) (at : Moment) (id c : ℕ) (m : List ℕ) (old : ChannelState A)
    → AreKept config h partitions channels → is_source_of c (port_of config p id) ≡ true → IsChannelKept config h c old → has_queue old ≡ false
    → AreKept config (h ++ entry_of p at (WriteSampling id m) (Code NoError) ∷ []) partitions (set channels c (Sampling (slot (Some (record { message = m; at = at })) (message_size old))))
written_keeps {A} config h partitions channels p at id c m old kept source was sampling =
    let none = no_queue old sampling in
    channel_changes config h e partitions channels kept c (Sampling (slot (Some (record { message = m; at = at })) (message_size old)))
    (leaves_partition p at (WriteSampling id m) (Code NoError) refl refl (λ _. refl))
    (λ d apart. leaves_channel config d p at (WriteSampling id m) (Code NoError) (writes_elsewhere config d p id m (source_elsewhere (port_of config p id) c d source apart)))
    (record {
      kind = sym sampling ∙ was.kind;
      waiting = sym none.0 ∙ (was.waiting ∙ sym (waiting_stays config c h e refl refl refl));
      depth = sym none.1 ∙ was.depth;
      size = was.size;
      accepted = sym none.2 ∙ (was.accepted ∙ ap count_of (sym (accepted_stays config c h e refl)));
      received = sym none.3 ∙ (was.received ∙ ap count_of (sym (received_stays config c h e refl)));
      cleared = sym none.4 ∙ (was.cleared ∙ ap count_of (sym (cleared_stays config c h e refl refl)));
      sample = sym (sample_changes config h e c (record { message = m; at = at }) (λ i. sample_at at (if source i then Some m else None)));
    })
  where
    e : Entry
    e = entry_of p at (WriteSampling id m) (Code NoError)
