-- A state still follows from the history if an entry leaves its parts alone, or if the part that the entry changes is set.
use Rattle.apex_ports.proofs.Common.{◌≡◌, ◌≢◌, ◌⊎◌, inl, inr, ⊎_elim, ℕ, zero, suc, ◌+◌, ◌-◌, Bool, true, false, ◌&&◌, ◌||◌, ◌==◌, not, if◌then◌else◌, List, [], ◌∷◌, ◌++◌, length, drop, map, filter, set, Option, Some, None, refl, sym, ap, ◌∙◌, subst, arith, length-append, length-set, append-nil, unwrap_or, option_to_list, slice_get, slice_get-last, slice_get-push, nat_tests, Invalid, Configuration, Call, Moment}
use Rattle.apex_ports.proofs.Common.{Reply, Code, NotMade, InvalidParam, Port, Entry, Sample, Taken, PartitionState, ChannelState, History, entry_of, mode_of, mode_set, mode_asked, is_restart, is_code_no_error, is_no_error, is_created, creates, is_create, is_id, accepted_on, received_on, taken_on, cleared_on, waiting_on, writes_on, last_write_on, message_accepted, message_sent, message_received, message_in}
use Rattle.apex_ports.proofs.Common.{is_receive, clears, is_clear, taken_by, as_received, as_cleared, sample_written, sample_at, message_written, last_validity_of, validity_read, validity_in, is_read, queuing_status_reply, sampling_status_reply, Seen, count_of, EachAt, IsPartitionKept, IsChannelKept, AreKept}
use Rattle.apex_types.specs.declared.return_code.ReturnCode.{ReturnCode}
use Rattle.apex_ports.proofs.Appends.{mode_of-append, is_created-append, last_validity_of-append, accepted_on-append, received_on-append, taken_on-append, writes_on-append}

-- ---- entries that leave a part alone

pub record LeavesPartition (p : ℕ) (e : Entry) : Type 0 where
  pub mode : mode_set p e ≡ None
  pub created : (id : ℕ) → creates p id e ≡ false
  pub read : (id : ℕ) → validity_read p id e ≡ None

pub record LeavesChannel (config : Configuration) (c : ℕ) (e : Entry) : Type 0 where
  pub accepted : message_accepted config c e ≡ None
  pub received : message_received config c e ≡ None
  pub cleared : clears config c e ≡ false
  pub written : sample_written config c e ≡ None

pub and_true : (a b : Bool) → (a && b) ≡ true → (a ≡ true) × (b ≡ true)
and_true true b h = (refl, h)
and_true false b h = absurd (cc)

pub and_false : (b : Bool) → (b && false) ≡ false
and_false true = refl
and_false false = refl

pub none_or_none : {X : Type 0} (b : Bool) → ◌≡◌ {A = Option X} (if b then None else None) None
none_or_none true = refl
none_or_none false = refl

pub or_not : (b : Bool) → (false || (b && not false)) ≡ b
or_not true = refl
or_not false = refl

module _ {A : Type 0} (config : Configuration) (h : History) (e : Entry) where
  pub partition_stays : (p : ℕ) (state : PartitionState A) → IsPartitionKept config h p state → LeavesPartition p e → IsPartitionKept config (h ++ e ∷ []) p state
  partition_stays p state kept left = record {
    mode = kept.mode ∙ sym (mode_of-append p h e ∙ ap (λ o. unwrap_or o (mode_of p h)) left.mode);
    ports = kept.ports;
    created = λ id. kept.created id ∙ sym (is_created-append p id h e ∙ ((λ i. left.created id i || (is_created p id h && not (is_restart (left.mode i)))) ∙ or_not (is_created p id h)));
    last = λ id. kept.last id ∙ sym (last_validity_of-append p id h e ∙ (λ i. if left.created id i then Invalid else unwrap_or (left.read id i) (last_validity_of p id h)));
  }

-- ---- what a history says about a channel that an entry leaves alone

pub accepted_stays : (config : Configuration) (c : ℕ) (h : History) (e : Entry) → message_accepted config c e ≡ None → accepted_on config c (h ++ e ∷ []) ≡ accepted_on config c h
accepted_stays config c h e none = accepted_on-append config c h e ∙ (ap (λ o. accepted_on config c h ++ option_to_list o) none ∙ append-nil (accepted_on config c h))

pub received_stays : (config : Configuration) (c : ℕ) (h : History) (e : Entry) → message_received config c e ≡ None → received_on config c (h ++ e ∷ []) ≡ received_on config c h
received_stays config c h e none = received_on-append config c h e ∙ (ap (λ o. received_on config c h ++ option_to_list o) none ∙ append-nil (received_on config c h))

pub takes_nothing : (config : Configuration) (c : ℕ) (waiting : List (List ℕ)) (e : Entry) → message_received config c e ≡ None → clears config c e ≡ false → taken_by config c waiting e ≡ []
takes_nothing config c waiting e no_receive no_clear = λ i. if no_clear i then map as_cleared waiting else map as_received (option_to_list (no_receive i))

pub taken_stays : (config : Configuration) (c : ℕ) (h : History) (e : Entry) → message_received config c e ≡ None → clears config c e ≡ false → taken_on config c (h ++ e ∷ []) ≡ taken_on config c h
taken_stays config c h e no_receive no_clear =
    taken_on-append config c h e ∙ (ap (λ ts. taken_on config c h ++ ts) (takes_nothing config c (waiting_on config c h) e no_receive no_clear) ∙ append-nil (taken_on config c h))

pub cleared_stays : (config : Configuration) (c : ℕ) (h : History) (e : Entry) → message_received config c e ≡ None → clears config c e ≡ false → cleared_on config c (h ++ e ∷ []) ≡ cleared_on config c h
cleared_stays config c h e no_receive no_clear = ap (filter (λ (taken : Taken). taken.cleared)) (taken_stays config c h e no_receive no_clear)

pub waiting_stays : (config : Configuration) (c : ℕ) (h : History) (e : Entry) → message_accepted config c e ≡ None → message_received config c e ≡ None → clears config c e ≡ false → waiting_on config c (h ++ e ∷ []) ≡ waiting_on config c h
waiting_stays config c h e no_send no_receive no_clear = λ i. drop (length (taken_stays config c h e no_receive no_clear i)) (accepted_stays config c h e no_send i)

-- a channel keeps its last write if the entry writes nothing into it
pub sample_stays : (config : Configuration) (h : History) (e : Entry) (c : ℕ) → sample_written config c e ≡ None → last_write_on config c (h ++ e ∷ []) ≡ last_write_on config c h
sample_stays config h e c left =
    let same : writes_on config c (h ++ e ∷ []) ≡ writes_on config c h = writes_on-append config c h e ∙ (ap (λ o. writes_on config c h ++ option_to_list o) left ∙ append-nil (writes_on config c h)) in
    ap (λ (writes : List Sample). slice_get writes (length writes - 1)) same

channel_stays : {A : Type 0} (config : Configuration) (h : History) (e : Entry) (c : ℕ) (state : ChannelState A) → IsChannelKept config h c state → LeavesChannel config c e → IsChannelKept config (h ++ e ∷ []) c state
channel_stays config h e c state kept left = record {
  kind = kept.kind;
  waiting = kept.waiting ∙ sym (waiting_stays config c h e left.accepted left.received left.cleared);
  depth = kept.depth;
  size = kept.size;
  accepted = kept.accepted ∙ ap count_of (sym (accepted_stays config c h e left.accepted));
  received = kept.received ∙ ap count_of (sym (received_stays config c h e left.received));
  cleared = kept.cleared ∙ ap count_of (sym (cleared_stays config c h e left.received left.cleared));
  sample = kept.sample ∙ sym (sample_stays config h e c left.written);
}

slice_get_last : {X : Type 0} (xs : List X) (x : X) → slice_get (xs ++ x ∷ []) (length (xs ++ x ∷ []) - 1) ≡ Some x
slice_get_last xs x =
    let at : length (xs ++ x ∷ []) - 1 ≡ length xs = omega (arith, length-append xs (x ∷ [])) in
    slice_get-last xs x (length (xs ++ x ∷ []) - 1) at

-- a write becomes the last one
pub sample_changes : (config : Configuration) (h : History) (e : Entry) (c : ℕ) (sample : Sample) → sample_written config c e ≡ Some sample → last_write_on config c (h ++ e ∷ []) ≡ Some sample
sample_changes config h e c sample written =
    let longer : writes_on config c (h ++ e ∷ []) ≡ writes_on config c h ++ sample ∷ [] = writes_on-append config c h e ∙ ap (λ o. writes_on config c h ++ option_to_list o) written in
    ap (λ (writes : List Sample). slice_get writes (length writes - 1)) longer ∙ slice_get_last (writes_on config c h) sample

-- an entry that receives a message clears no channel
pub receives_no_clear : (config : Configuration) (c : ℕ) (e : Entry) (m : List ℕ) → message_received config c e ≡ Some m → (d : ℕ) → clears config d e ≡ false
receives_no_clear config c e m received d = λ i. by_code (is_code_no_error e.reply) refl i && is_clear config d e.partition e.call
  where
    without : (reply : Reply) → is_code_no_error reply ≡ true → message_in reply ≡ None
    without (Code code) is = refl
    without _ is = absurd (cc)

    by_code : (b : Bool) → is_code_no_error e.reply ≡ b → is_code_no_error e.reply ≡ false
    by_code false is = is
    by_code true is =
        let none : message_received config c e ≡ None = (λ i. if is_receive config c e.partition e.call then without e.reply is i else None) ∙ none_or_none (is_receive config c e.partition e.call) in
        absurd (cc)

-- ---- lists, item by item

-- the item at an index of a list with one item set
pub slice_get-set_cases : {X : Type 0} (xs : List X) (i : ℕ) (y : X) (k : ℕ) (x : X) → slice_get (set xs i y) k ≡ Some x → ((k ≡ i) × (x ≡ y)) ⊎ ((k ≢ i) × (slice_get xs k ≡ Some x))
slice_get-set_cases [] i y k x at = inr ((λ e. absurd (cc)), at)
slice_get-set_cases (z ∷ xs) zero y zero x at = inl (refl, cc)
slice_get-set_cases (z ∷ xs) zero y (suc k) x at = inr ((λ e. absurd (omega arith)), at)
slice_get-set_cases (z ∷ xs) (suc i) y zero x at = inr ((λ e. absurd (omega arith)), at)
slice_get-set_cases (z ∷ xs) (suc i) y (suc k) x at =
    ⊎_elim
    (λ (h : (k ≡ i) × (x ≡ y)). inl (ap suc h.0, h.1))
    (λ (h : (k ≢ i) × (slice_get xs k ≡ Some x)). inr ((λ e. h.0 (omega arith)), h.1))
    (slice_get-set_cases xs i y k x at)

pub each_at_set : {X : Type 0} (P Q : ℕ → X → Type 0) (xs : List X) (i : ℕ) (y : X) → EachAt P xs → ((k : ℕ) (x : X) → k ≢ i → P k x → Q k x) → Q i y → EachAt Q (set xs i y)
each_at_set {X} P Q xs i y each others mine k x at =
    ⊎_elim
    (λ (h : (k ≡ i) × (x ≡ y)). subst (λ (p : ℕ × X). Q p.0 p.1) (λ j. (sym h.0 j, sym h.1 j)) mine)
    (λ (h : (k ≢ i) × (slice_get xs k ≡ Some x)). others k x h.0 (each k x h.1))
    (slice_get-set_cases xs i y k x at)

-- ---- calls that concern something else

pub leaves_partition : (p : ℕ) (at : Moment) (call : Call) (reply : Reply) → mode_asked call ≡ None → is_create call ≡ false → ((id : ℕ) → is_read id call ≡ false) → (q : ℕ) → LeavesPartition q (entry_of p at call reply)
leaves_partition p at call reply no_mode no_create no_read q = record {
  mode = (λ i. if is_code_no_error reply && (p == q) then no_mode i else None) ∙ none_or_none (is_code_no_error reply && (p == q));
  created = λ id i. (no_create i && is_id id reply) && (p == q);
  read = λ id i. if no_read id i && (p == q) then validity_in reply else None;
}

-- the call does nothing to the channel
pub record IsElsewhere (config : Configuration) (c p : ℕ) (call : Call) : Type 0 where
  pub sends : message_sent config c p call ≡ None
  pub receives : is_receive config c p call ≡ false
  pub clears : is_clear config c p call ≡ false
  pub writes : message_written config c p call ≡ None

pub leaves_channel : (config : Configuration) (c p : ℕ) (at : Moment) (call : Call) (reply : Reply) → IsElsewhere config c p call → LeavesChannel config c (entry_of p at call reply)
leaves_channel config c p at call reply elsewhere = record {
  accepted = (λ i. if is_code_no_error reply then elsewhere.sends i else None) ∙ none_or_none (is_code_no_error reply);
  received = λ i. if elsewhere.receives i then message_in reply else None;
  cleared = (λ i. is_code_no_error reply && elsewhere.clears i) ∙ and_false (is_code_no_error reply);
  written = (λ i. if is_code_no_error reply then sample_at at (elsewhere.writes i) else None) ∙ none_or_none (is_code_no_error reply);
}

pub length_push : {X : Type 0} (xs : List X) (x : X) (n : ℕ) → length xs ≡ n → length (xs ++ x ∷ []) ≡ n + 1
length_push xs x n count = omega (arith, length-append xs (x ∷ []))

pub each_at_push : {X : Type 0} (P : ℕ → X → Type 0) (xs : List X) (n : ℕ) (x : X) → length xs ≡ n → EachAt P xs → P n x → EachAt P (xs ++ x ∷ [])
each_at_push {X} P xs n x count each mine k y at = by_test (k == n) refl
  where
    by_test : (b : Bool) → (k == n) ≡ b → P k y
    by_test true is =
        let index : k ≡ n = grind (arith, nat_tests) in
        let last : Some y ≡ Some x = sym at ∙ slice_get-last xs x k (index ∙ sym count) in
        let same : x ≡ y = cc in
        subst (λ (p : ℕ × X). P p.0 p.1) (λ i. (sym index i, same i)) mine
    by_test false is =
        let apart : k ≢ n = grind (arith, nat_tests) in
        each k y (sym (slice_get-push xs x k (λ e. apart (e ∙ count))) ∙ at)

-- ---- the whole state

module _ {A : Type 0} (config : Configuration) (h : History) (e : Entry) (partitions : List (PartitionState A)) (channels : List (ChannelState A)) where
  -- the entry leaves all alone
  pub kept_stays : AreKept config h partitions channels → ((p : ℕ) → LeavesPartition p e) → ((c : ℕ) → LeavesChannel config c e) → AreKept config (h ++ e ∷ []) partitions channels
  kept_stays kept left_partitions left_channels = record {
    all_partitions = kept.all_partitions;
    all_channels = kept.all_channels;
    each_partition = λ p state at. partition_stays config h e p state (kept.each_partition p state at) (left_partitions p);
    each_channel = λ c state at. channel_stays config h e c state (kept.each_channel c state at) (left_channels c);
  }

  -- the entry changes one partition
  pub partition_changes : AreKept config h partitions channels → (i : ℕ) (new : PartitionState A) → ((p : ℕ) → p ≢ i → LeavesPartition p e) → ((c : ℕ) → LeavesChannel config c e)
      → IsPartitionKept config (h ++ e ∷ []) i new → AreKept config (h ++ e ∷ []) (set partitions i new) channels
  partition_changes kept i new left_partitions left_channels changed = record {
    all_partitions = length-set partitions i new ∙ kept.all_partitions;
    all_channels = kept.all_channels;
    each_partition = each_at_set (IsPartitionKept config h) (IsPartitionKept config (h ++ e ∷ [])) partitions i new kept.each_partition (λ p state apart was. partition_stays config h e p state was (left_partitions p apart)) changed;
    each_channel = λ c state at. channel_stays config h e c state (kept.each_channel c state at) (left_channels c);
  }

  -- the entry changes one channel
  pub channel_changes : AreKept config h partitions channels → (i : ℕ) (new : ChannelState A) → ((p : ℕ) → LeavesPartition p e) → ((c : ℕ) → c ≢ i → LeavesChannel config c e)
      → IsChannelKept config (h ++ e ∷ []) i new → AreKept config (h ++ e ∷ []) partitions (set channels i new)
  channel_changes kept i new left_partitions left_channels changed = record {
    all_partitions = kept.all_partitions;
    all_channels = length-set channels i new ∙ kept.all_channels;
    each_partition = λ p state at. partition_stays config h e p state (kept.each_partition p state at) (left_partitions p);
    each_channel = each_at_set (IsChannelKept config h) (IsChannelKept config (h ++ e ∷ [])) channels i new kept.each_channel (λ c state apart was. channel_stays config h e c state was (left_channels c apart)) changed;
  }

-- ---- replies that change nothing

pub record IsQuiet (call : Call) (reply : Reply) : Type 0 where
  pub accepted : is_code_no_error reply ≡ false
  pub created : (id : ℕ) → (is_create call && is_id id reply) ≡ false
  pub received : message_in reply ≡ None
  pub read : validity_in reply ≡ None

-- a refusal changes nothing
pub refused_is_quiet : (call : Call) (code : ReturnCode) → is_no_error code ≡ false → IsQuiet call (Code code)
refused_is_quiet call code refused = record {
  accepted = refused;
  created = λ id. and_false (is_create call);
  received = refl;
  read = refl;
}

module _ (config : Configuration) (p : ℕ) (at : Moment) (call : Call) (reply : Reply) (quiet : IsQuiet call reply) where
  pub quiet_leaves_partition : (q : ℕ) → LeavesPartition q (entry_of p at call reply)
  quiet_leaves_partition q = record {
    mode = λ i. if quiet.accepted i && (p == q) then mode_asked call else None;
    created = λ id i. quiet.created id i && (p == q);
    read = λ id. (λ i. if is_read id call && (p == q) then quiet.read i else None) ∙ none_or_none (is_read id call && (p == q));
  }

  pub quiet_leaves_channel : (c : ℕ) → LeavesChannel config c (entry_of p at call reply)
  quiet_leaves_channel c = record {
    accepted = λ i. if quiet.accepted i then message_sent config c p call else None;
    received = (λ i. if is_receive config c p call then quiet.received i else None) ∙ none_or_none (is_receive config c p call);
    cleared = λ i. quiet.accepted i && is_clear config c p call;
    written = λ i. if quiet.accepted i then sample_at at (message_written config c p call) else None;
  }

-- after a reply that changes nothing, the unchanged state follows from the history
pub quiet_keeps : {A : Type 0} (config : Configuration) (h : History) (partitions : List (PartitionState A)) (channels : List (ChannelState A)) (p : ℕ) (at : Moment) (call : Call) (reply : Reply)
    → AreKept config h partitions channels → IsQuiet call reply → AreKept config (h ++ entry_of p at call reply ∷ []) partitions channels
quiet_keeps config h partitions channels p at call reply kept quiet =
    kept_stays config h (entry_of p at call reply) partitions channels kept (quiet_leaves_partition config p at call reply quiet) (quiet_leaves_channel config p at call reply quiet)

-- ---- answers that change nothing

module _ (config : Configuration) (s : Seen) (p : ℕ) (call : Call) where
  pub queuing_status_is_quiet : (id : ℕ) (port : Option Port) → IsQuiet call (queuing_status_reply config s id port)
  queuing_status_is_quiet id None = refused_is_quiet call InvalidParam refl
  queuing_status_is_quiet id (Some port) = record { accepted = refl; created = λ id. and_false (is_create call); received = refl; read = refl }

  pub sampling_status_is_quiet : (id : ℕ) (port : Option Port) → IsQuiet call (sampling_status_reply config s id port)
  sampling_status_is_quiet id None = refused_is_quiet call InvalidParam refl
  sampling_status_is_quiet id (Some port) = record { accepted = refl; created = λ id. and_false (is_create call); received = refl; read = refl }

pub not_made_is_quiet : (call : Call) → IsQuiet call NotMade
not_made_is_quiet call = record { accepted = refl; created = λ id. and_false (is_create call); received = refl; read = refl }
