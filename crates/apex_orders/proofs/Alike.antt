-- Histories with the same filtered parts continue alike.
use Rattle.apex_orders.proofs.Common.{◌≡◌, ◌⊎◌, ⊎_elim, ℕ, ◌-◌, ◌&&◌, ◌||◌, not, Bool, if◌then◌else◌, List, [], ◌∷◌, ◌++◌, length, drop, Option, Some, None, refl, sym, ap, ◌∙◌, subst, append_assoc, append-nil, filter, slice_get, unwrap_or, option_to_list, Sample, Taken, Invalid, Configuration, port_of, Port, Entry, count_of, History, entries_of, IsLawful, IsLawfulEntry, mode_of, mode_set, restarts, is_restart}
use Rattle.apex_orders.proofs.Common.{is_created, creates, accepted_on, received_on, taken_on, taken_by, writes_on, last_validity_of, validity_read, message_accepted, message_received, sample_written, reply_of, row_of, Seen, seen, waiting_of, sample_of, sampling_port, validity_shown, mode_of-append, is_created-append, last_validity_of-append, accepted_on-append, received_on-append, taken_on-append, writes_on-append}
use Rattle.apex_orders.proofs.Common.{lawful_push, LeavesPartition, LeavesChannel, accepted_stays, received_stays, taken_stays, or_not, IsSamePoint}
use Rattle.apex_types.specs.declared.mode.Mode.{Mode}
use Rattle.apex_types.specs.declared.validity.Validity.{Validity}
use Rattle.apex_orders.proofs.GoingOn.{lawful_here}
use Rattle.apex_orders.proofs.Walks.{entries_of-append}

-- ---- one channel

pub record IsChannelAlike (config : Configuration) (g h : History) (c : ℕ) : Type 0 where
  pub accepted : accepted_on config c g ≡ accepted_on config c h
  pub received : received_on config c g ≡ received_on config c h
  pub taken : taken_on config c g ≡ taken_on config c h
  pub writes : writes_on config c g ≡ writes_on config c h

module _ (config : Configuration) (c : ℕ) where
  pub channel_back : (g h : History) → IsChannelAlike config g h c → IsChannelAlike config h g c
  channel_back g h alike = record { accepted = sym alike.accepted; received = sym alike.received; taken = sym alike.taken; writes = sym alike.writes }

  pub channel_along : (f g h : History) → IsChannelAlike config f g c → IsChannelAlike config g h c → IsChannelAlike config f h c
  channel_along f g h one two = record {
    accepted = one.accepted ∙ two.accepted;
    received = one.received ∙ two.received;
    taken = one.taken ∙ two.taken;
    writes = one.writes ∙ two.writes;
  }

  pub channel_more : (g h : History) (x : Entry) → IsChannelAlike config g h c → IsChannelAlike config (g ++ x ∷ []) (h ++ x ∷ []) c
  channel_more g h x alike = record {
    accepted = accepted_on-append config c g x ∙ (ap (λ (ms : List (List ℕ)). ms ++ option_to_list (message_accepted config c x)) alike.accepted ∙ sym (accepted_on-append config c h x));
    received = received_on-append config c g x ∙ (ap (λ (ms : List (List ℕ)). ms ++ option_to_list (message_received config c x)) alike.received ∙ sym (received_on-append config c h x));
    taken = taken_on-append config c g x ∙ ((λ i. alike.taken i ++ taken_by config c (drop (length (alike.taken i)) (alike.accepted i)) x) ∙ sym (taken_on-append config c h x));
    writes = writes_on-append config c g x ∙ (ap (λ (ws : List Sample). ws ++ option_to_list (sample_written config c x)) alike.writes ∙ sym (writes_on-append config c h x));
  }

  pub channel_left : (h : History) (x : Entry) → LeavesChannel config c x → IsChannelAlike config (h ++ x ∷ []) h c
  channel_left h x left = record {
    accepted = accepted_stays config c h x left.accepted;
    received = received_stays config c h x left.received;
    taken = taken_stays config c h x left.received left.cleared;
    writes = writes_on-append config c h x ∙ (ap (λ o. writes_on config c h ++ option_to_list o) left.written ∙ append-nil (writes_on config c h));
  }

  -- one of two entries leaves the channel unchanged
  pub channel_swap : (h : History) (e f : Entry) → LeavesChannel config c e ⊎ LeavesChannel config c f
      → IsChannelAlike config ((h ++ e ∷ []) ++ f ∷ []) ((h ++ f ∷ []) ++ e ∷ []) c
  channel_swap h e f =
      ⊎_elim
      (λ (left : LeavesChannel config c e). channel_along ((h ++ e ∷ []) ++ f ∷ []) (h ++ f ∷ []) ((h ++ f ∷ []) ++ e ∷ [])
      (channel_more (h ++ e ∷ []) h f (channel_left h e left))
      (channel_back ((h ++ f ∷ []) ++ e ∷ []) (h ++ f ∷ []) (channel_left (h ++ f ∷ []) e left)))
      (λ (left : LeavesChannel config c f). channel_along ((h ++ e ∷ []) ++ f ∷ []) (h ++ e ∷ []) ((h ++ f ∷ []) ++ e ∷ [])
      (channel_left (h ++ e ∷ []) f left)
      (channel_back ((h ++ f ∷ []) ++ e ∷ []) (h ++ e ∷ []) (channel_more (h ++ f ∷ []) h e (channel_left h f left))))

-- ---- one partition

pub record IsPartitionAlike (g h : History) (p : ℕ) : Type 0 where
  pub mode : mode_of p g ≡ mode_of p h
  pub created : (id : ℕ) → is_created p id g ≡ is_created p id h
  pub last : (id : ℕ) → last_validity_of p id g ≡ last_validity_of p id h

module _ (p : ℕ) where
  partition_back : (g h : History) → IsPartitionAlike g h p → IsPartitionAlike h g p
  partition_back g h alike = record { mode = sym alike.mode; created = λ id. sym (alike.created id); last = λ id. sym (alike.last id) }

  partition_along : (f g h : History) → IsPartitionAlike f g p → IsPartitionAlike g h p → IsPartitionAlike f h p
  partition_along f g h one two = record {
    mode = one.mode ∙ two.mode;
    created = λ id. one.created id ∙ two.created id;
    last = λ id. one.last id ∙ two.last id;
  }

  partition_more : (g h : History) (x : Entry) → IsPartitionAlike g h p → IsPartitionAlike (g ++ x ∷ []) (h ++ x ∷ []) p
  partition_more g h x alike = record {
    mode = mode_of-append p g x ∙ (ap (λ (mode : Mode). unwrap_or (mode_set p x) mode) alike.mode ∙ sym (mode_of-append p h x));
    created = λ id. is_created-append p id g x ∙ (ap (λ (b : Bool). creates p id x || (b && not (restarts p x))) (alike.created id) ∙ sym (is_created-append p id h x));
    last = λ id. last_validity_of-append p id g x ∙ (ap (λ (v : Validity). if creates p id x then Invalid else unwrap_or (validity_read p id x) v) (alike.last id) ∙ sym (last_validity_of-append p id h x));
  }

  pub partition_left : (h : History) (x : Entry) → LeavesPartition p x → IsPartitionAlike (h ++ x ∷ []) h p
  partition_left h x left = record {
    mode = mode_of-append p h x ∙ ap (λ o. unwrap_or o (mode_of p h)) left.mode;
    created = λ id. is_created-append p id h x ∙ ((λ i. left.created id i || (is_created p id h && not (is_restart (left.mode i)))) ∙ or_not (is_created p id h));
    last = λ id. last_validity_of-append p id h x ∙ (λ i. if left.created id i then Invalid else unwrap_or (left.read id i) (last_validity_of p id h));
  }

  pub partition_swap : (h : History) (e f : Entry) → LeavesPartition p e ⊎ LeavesPartition p f
      → IsPartitionAlike ((h ++ e ∷ []) ++ f ∷ []) ((h ++ f ∷ []) ++ e ∷ []) p
  partition_swap h e f =
      ⊎_elim
      (λ (left : LeavesPartition p e). partition_along ((h ++ e ∷ []) ++ f ∷ []) (h ++ f ∷ []) ((h ++ f ∷ []) ++ e ∷ [])
      (partition_more (h ++ e ∷ []) h f (partition_left h e left))
      (partition_back ((h ++ f ∷ []) ++ e ∷ []) (h ++ f ∷ []) (partition_left (h ++ f ∷ []) e left)))
      (λ (left : LeavesPartition p f). partition_along ((h ++ e ∷ []) ++ f ∷ []) (h ++ e ∷ []) ((h ++ f ∷ []) ++ e ∷ [])
      (partition_left (h ++ e ∷ []) f left)
      (partition_back ((h ++ f ∷ []) ++ e ∷ []) (h ++ e ∷ []) (partition_more (h ++ f ∷ []) h e (partition_left h f left))))

-- ---- the whole

pub record IsAlike (config : Configuration) (g h : History) : Type 0 where
  pub partitions : (p : ℕ) → IsPartitionAlike g h p
  pub channels : (c : ℕ) → IsChannelAlike config g h c
  pub entries : (p : ℕ) → entries_of p g ≡ entries_of p h

module _ (config : Configuration) where
  pub alike_more : (g h : History) (x : Entry) → IsAlike config g h → IsAlike config (g ++ x ∷ []) (h ++ x ∷ [])
  alike_more g h x alike = record {
    partitions = λ p. partition_more p g h x (alike.partitions p);
    channels = λ c. channel_more config c g h x (alike.channels c);
    entries = λ p. entries_of-append p g (x ∷ []) ∙ (ap (λ (es : History). es ++ entries_of p (x ∷ [])) (alike.entries p) ∙ sym (entries_of-append p h (x ∷ [])));
  }

  waiting_alike : (g h : History) (o : Option Port) → IsAlike config g h → waiting_of config g o ≡ waiting_of config h o
  waiting_alike g h None alike = refl
  waiting_alike g h (Some port) alike = let c = alike.channels port.channel in λ i. drop (length (c.taken i)) (c.accepted i)

  sample_alike : (g h : History) (o : Option Port) → IsAlike config g h → sample_of config g o ≡ sample_of config h o
  sample_alike g h None alike = refl
  sample_alike g h (Some port) alike = ap (λ (ws : List Sample). slice_get ws (length ws - 1)) (alike.channels port.channel).writes

  -- each partition sees the same
  seen_alike : (g h : History) (p : ℕ) → IsAlike config g h → seen config g p ≡ seen config h p
  seen_alike g h p alike = λ i. record {
    mode = (alike.partitions p).mode i;
    created = λ id. (alike.partitions p).created id i;
    last = λ id. (alike.partitions p).last id i;
    waiting = λ id. waiting_alike g h (port_of config p id) alike i;
    sample = λ id. sample_alike g h (port_of config p id) alike i;
  }

  lawful_alike : (g h : History) (x : Entry) → IsAlike config g h → IsLawfulEntry config g x → IsLawfulEntry config h x
  lawful_alike g h x alike lawful =
      (lawful.0, lawful.1 ∙ ap (λ (s : Seen). reply_of config s x.partition (row_of config s x.partition x.at x.call)) (seen_alike g h x.partition alike))

  pub alike_follows : (g h : History) (rest : List Entry) → IsAlike config g h → IsLawful config h → IsLawful config (g ++ rest) → IsLawful config (h ++ rest) × IsAlike config (g ++ rest) (h ++ rest)
  alike_follows g h [] alike lawful_too lawful = (
    subst (IsLawful config) (sym (append-nil h)) lawful_too,
    subst (λ (both : History × History). IsAlike config both.0 both.1) (λ i. (sym (append-nil g) i, sym (append-nil h) i)) alike,
  )
  alike_follows g h (x ∷ rest) alike lawful_too lawful =
      let there : IsLawfulEntry config h x = lawful_alike g h x alike (lawful_here config g x rest lawful) in
      let both = alike_follows (g ++ x ∷ []) (h ++ x ∷ []) rest (alike_more g h x alike)
      (lawful_push config h x.partition x.at x.call x.reply lawful_too there.0 there.1)
      (subst (IsLawful config) (sym (append_assoc g (x ∷ []) rest)) lawful) in (
        subst (IsLawful config) (append_assoc h (x ∷ []) rest) both.0,
        subst (λ (two : History × History). IsAlike config two.0 two.1) (λ i. (append_assoc g (x ∷ []) rest i, append_assoc h (x ∷ []) rest i)) both.1,
      )

  pub point_alike : (g h : History) → IsAlike config g h → IsSamePoint config g h
  point_alike g h alike = record {
    calls = λ p within. ap count_of (alike.entries p);
    counts = λ c within. let channel = alike.channels c in record {
      accepted = ap count_of channel.accepted;
      received = ap count_of channel.received;
      cleared = ap (λ (ts : List Taken). count_of (filter (λ (one : Taken). one.cleared) ts)) channel.taken;
    };
    state = record {
      partitions = λ p within. let one = alike.partitions p in record {
        mode = one.mode;
        ports = record {
          created = λ id known. one.created id;
          last = λ id known. ap (λ (s : Seen). validity_shown s id (sampling_port config s p id)) (seen_alike g h p alike);
        };
      };
      channels = λ c within. let channel = alike.channels c in record {
        sample = ap (λ (ws : List Sample). slice_get ws (length ws - 1)) channel.writes;
        waiting = λ i. drop (length (channel.taken i)) (channel.accepted i);
      };
    };
  }
