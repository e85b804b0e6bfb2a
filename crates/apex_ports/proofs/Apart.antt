-- Packed items can be told apart by their bytes.
use Rattle.apex_ports.proofs.Common.{◌≡◌, ℕ, zero, suc, ◌^◌, ◌<◌, ◌≤◌, List, [], ◌∷◌, ◌++◌, length, Some, None, Option, true, false, Bool, refl, sym, ap, ◌∙◌, subst, arith, append_assoc, slice_get, slice_get_within, PortState, PartitionState, ChannelState, has_queue, waiting_in, accepted_in, received_in, cleared_in, sample_in, Messages, EachOf, HasAsManyPorts, IsSameTable, AreWithin, IsSlotPackable, IsPackable, Sample, Mode, mode_numbered, ◌==◌, if◌then◌else◌}
use Rattle.std.specs.List.{flat_map}
use Rattle.apex_types.specs.Mode as mode
use Rattle.apex_types.specs.declared.message.TheConstants.{MESSAGE_LIMIT}
use Rattle.apex_types.specs.declared.mode.Mode.TheVariants.{Idle, ColdStart, WarmStart, Normal}
use Rattle.apex_types.specs.declared.validity.Validity.{Validity}
use Rattle.apex_types.specs.declared.validity.Validity.TheVariants.{Invalid, Valid}
use Rattle.apex_ports.specs.declared.channel.ChannelState.TheVariants.{Queuing, Sampling}
use Rattle.apex_ports.specs.Packed.{packed_number, packed_count, packed_length, packed_port, packed_partition, packed_message, packed_messages, packed_sample, packed_channel, port_byte}
use Rattle.apex_ports.proofs.PackedItems.{number_back, count_back, length_back, same_items}

-- ---- items one behind another

-- two items that fit to each other and begin the same bytes are the same, and the rest of the bytes is
abbrev pub AreApart : {X : Type 0} → (X → List ℕ) → (X → X → Type 0) → (X → X → Type 0) → Type 0
AreApart {X} packed Fit Same = (x y : X) (r s : List ℕ) → Fit x y → packed x ++ r ≡ packed y ++ s → Same x y × (r ≡ s)

-- the items that stand first can be told apart, whatever stands behind them
first_apart : {X : Type 0} (packed : X → List ℕ) (Fit Same : X → X → Type 0) → AreApart packed Fit Same → (x y : X) (t u r s : List ℕ) → Fit x y → (packed x ++ t) ++ r ≡ (packed y ++ u) ++ s → Same x y × (t ++ r ≡ u ++ s)
first_apart packed Fit Same apart x y t u r s fit e = apart x y (t ++ r) (u ++ s) fit (sym (append_assoc (packed x) t r) ∙ (e ∙ append_assoc (packed y) u s))

each_rest : {X : Type 0} (P : X → X → Type 0) (x y : X) (xs ys : List X) → EachOf P (x ∷ xs) (y ∷ ys) → EachOf P xs ys
each_rest P x y xs ys pairs = record {
  count = let count = pairs.count in omega (arith, count);
  each = λ k u v at listed. pairs.each (suc k) u v at listed;
}

each_with : {X : Type 0} (P : X → X → Type 0) (x y : X) (xs ys : List X) → P x y → EachOf P xs ys → EachOf P (x ∷ xs) (y ∷ ys)
each_with {X} P x y xs ys first rest = record { count = let count = rest.count in omega (arith, count); each = at_index }
  where
    at_index : (k : ℕ) (u v : X) → slice_get (x ∷ xs) k ≡ Some u → slice_get (y ∷ ys) k ≡ Some v → P u v
    at_index zero u v at listed =
        let one : x ≡ u = cc in
        let two : y ≡ v = cc in
        subst (P u) two (subst (λ z. P z y) one first)
    at_index (suc k) u v at listed = rest.each k u v at listed

each_none : {X : Type 0} (P : X → X → Type 0) → EachOf P [] []
each_none {X} P = record { count = refl; each = λ k u v at listed. absurd (let inside = slice_get_within [] k u at in omega (arith, inside)) }

-- lists of as many items can be told apart if the items can
pub lists_apart : {X : Type 0} (packed : X → List ℕ) (Fit Same : X → X → Type 0) → AreApart packed Fit Same → AreApart (flat_map packed) (EachOf Fit) (EachOf Same)
lists_apart packed Fit Same apart [] [] r s fit e = (each_none Same, e)
lists_apart packed Fit Same apart [] (y ∷ ys) r s fit e = absurd (let count = fit.count in omega (arith, count))
lists_apart packed Fit Same apart (x ∷ xs) [] r s fit e = absurd (let count = fit.count in omega (arith, count))
lists_apart packed Fit Same apart (x ∷ xs) (y ∷ ys) r s fit e =
    let here = first_apart packed Fit Same apart x y (flat_map packed xs) (flat_map packed ys) r s (fit.each zero x y refl refl) e in
    let rest = lists_apart packed Fit Same apart xs ys r s (each_rest Fit x y xs ys fit) here.1 in
    (each_with Same x y xs ys here.0 rest.0, rest.1)

-- lists of the same items have the same bytes
pub lists_same : {X : Type 0} (packed : X → List ℕ) (Same : X → X → Type 0) → ((x y : X) → Same x y → packed x ≡ packed y) → (xs ys : List X) → EachOf Same xs ys → flat_map packed xs ≡ flat_map packed ys
lists_same packed Same goes [] [] pairs = refl
lists_same packed Same goes [] (y ∷ ys) pairs = absurd (let count = pairs.count in omega (arith, count))
lists_same packed Same goes (x ∷ xs) [] pairs = absurd (let count = pairs.count in omega (arith, count))
lists_same packed Same goes (x ∷ xs) (y ∷ ys) pairs =
    let first = goes x y (pairs.each zero x y refl refl) in
    let rest = lists_same packed Same goes xs ys (each_rest Same x y xs ys pairs) in
    λ i. first i ++ rest i

-- ---- numbers

-- both are below a bound
abbrev pub AreBelow : ℕ → ℕ → ℕ → Type 0
AreBelow bound n m = (n < bound) × (m < bound)

abbrev pub IsEqual : {X : Type 0} → X → X → Type 0
IsEqual x y = y ≡ x

pub numbers_apart : AreApart packed_number (AreBelow (2 ^ 64)) IsEqual
numbers_apart n m r s small e =
    let one = number_back n (packed_number n ++ r) r small.0 refl in
    let two = number_back m (packed_number n ++ r) s small.1 e in
    (sym two.is ∙ one.is, sym one.left ∙ two.left)

-- the number that stands first, whatever stands behind it
after_number : (n m : ℕ) (t u r s : List ℕ) → n < 2 ^ 64 → m < 2 ^ 64 → (packed_number n ++ t) ++ r ≡ (packed_number m ++ u) ++ s → (m ≡ n) × (t ++ r ≡ u ++ s)
after_number n m t u r s small small_too e = first_apart packed_number (AreBelow (2 ^ 64)) IsEqual numbers_apart n m t u r s (small, small_too) e

counts_apart : AreApart packed_count (AreBelow (2 ^ 32)) IsEqual
counts_apart n m r s small e =
    let one = count_back n (packed_count n ++ r) r small.0 refl in
    let two = count_back m (packed_count n ++ r) s small.1 e in
    (sym two.is ∙ one.is, sym one.left ∙ two.left)

lengths_apart : AreApart packed_length (AreBelow (2 ^ 16)) IsEqual
lengths_apart n m r s small e =
    let one = length_back n (packed_length n ++ r) r small.0 refl in
    let two = length_back m (packed_length n ++ r) s small.1 e in
    (sym two.is ∙ one.is, sym one.left ∙ two.left)

-- ---- partitions

mode_back : (m : Mode) → mode_numbered (mode.number_of m) ≡ Some m
mode_back Idle = refl
mode_back ColdStart = refl
mode_back WarmStart = refl
mode_back Normal = refl

-- modes of the same number are the same
same_mode : (m n : Mode) → mode.number_of m ≡ mode.number_of n → n ≡ m
same_mode m n e =
    let both : Some m ≡ Some n = sym (mode_back m) ∙ (ap mode_numbered e ∙ mode_back n) in
    cc

-- a port of these parts
abbrev pub port : Bool → Validity → PortState
port created last = record { created = created; last = last }

-- the port that has this byte
abbrev port_numbered : ℕ → PortState
port_numbered byte =
    if byte == 0 then port false Invalid
    else if byte == 1 then port false Valid
    else if byte == 2 then port true Invalid
    else port true Valid

port_back : (created : Bool) (last : Validity) → port_numbered (port_byte (port created last)) ≡ port created last
port_back false Invalid = refl
port_back false Valid = refl
port_back true Invalid = refl
port_back true Valid = refl

-- ports of the same byte are the same
same_port : (x y : PortState) → port_byte x ≡ port_byte y → y ≡ x
same_port x y e = sym (port_back y.created y.last) ∙ (ap port_numbered (sym e) ∙ port_back x.created x.last)

-- the first bytes are equal, and the others are
heads_apart : (n m : ℕ) (r s : List ℕ) → n ∷ r ≡ m ∷ s → (n ≡ m) × (r ≡ s)
heads_apart n m r s e = (cc, cc)

abbrev IsAnyPair : {X : Type 0} → X → X → Type 0
IsAnyPair x y = Unit {0}

ports_apart : AreApart packed_port IsAnyPair IsEqual
ports_apart x y r s fit e =
    let both = heads_apart (port_byte x) (port_byte y) r s e in
    (same_port x y both.0, both.1)

pub partitions_apart : {A : Type 0} → AreApart (packed_partition {A = A}) HasAsManyPorts IsSameTable
partitions_apart x y r s fit e =
    let both = heads_apart (mode.number_of x.mode) (mode.number_of y.mode) (flat_map packed_port x.ports.items ++ r) (flat_map packed_port y.ports.items ++ s) e in
    let ports = lists_apart packed_port IsAnyPair IsEqual ports_apart x.ports.items y.ports.items r s (record { count = fit; each = λ k u v at listed. tt }) both.1 in
    (record { mode = same_mode x.mode y.mode both.0; ports = same_items x.ports.items y.ports.items ports.0 }, ports.1)

pub partitions_same : {A : Type 0} (x y : PartitionState A) → IsSameTable x y → packed_partition x ≡ packed_partition y
partitions_same x y same = λ i. mode.number_of (sym same.mode i) ∷ flat_map packed_port (sym same.ports i)

-- ---- messages

-- neither is longer than the longest message
abbrev AreMessages : List ℕ → List ℕ → Type 0
AreMessages x y = (length x ≤ MESSAGE_LIMIT) × (length y ≤ MESSAGE_LIMIT)

-- of two lists of one length, the first bytes are equal, and the others are
pieces_apart : (x y r s : List ℕ) → length y ≡ length x → x ++ r ≡ y ++ s → (y ≡ x) × (r ≡ s)
pieces_apart [] [] r s same e = (refl, e)
pieces_apart [] (b ∷ y) r s same e = absurd (omega (arith, same))
pieces_apart (a ∷ x) [] r s same e = absurd (omega (arith, same))
pieces_apart (a ∷ x) (b ∷ y) r s same e =
    let both = heads_apart a b (x ++ r) (y ++ s) e in
    let rest = pieces_apart x y r s (omega (arith, same)) both.1 in
    ((λ i. sym both.0 i ∷ rest.0 i), rest.1)

messages_apart : AreApart packed_message AreMessages IsEqual
messages_apart x y r s short e =
    let lengths = first_apart packed_length (AreBelow (2 ^ 16)) IsEqual lengths_apart (length x) (length y) x y r s (omega (arith, short.0), omega (arith, short.1)) e in
    pieces_apart x y r s lengths.0 lengths.1

abbrev AreBothWithin : Messages → Messages → Type 0
AreBothWithin x y = AreWithin x × AreWithin y

-- each message of a ring is short
ring_short : (x : Messages) → AreWithin x → (k : ℕ) (message : List ℕ) → slice_get x.items k ≡ Some message → length message ≤ MESSAGE_LIMIT
ring_short x within k message at = let short = within.short k message at in let wide = within.wide in omega (arith, short, wide)

rings_apart : AreApart (λ (ring : Messages). packed_messages ring.items) AreBothWithin (λ x y. y.items ≡ x.items)
rings_apart x y r s fit e =
    let few = fit.0.few in
    let few_too = fit.1.few in
    let small = fit.0.small in
    let small_too = fit.1.small in
    let counts = first_apart packed_count (AreBelow (2 ^ 32)) IsEqual counts_apart (length x.items) (length y.items) (flat_map packed_message x.items) (flat_map packed_message y.items) r s
    (omega (arith, few, small), omega (arith, few_too, small_too)) e in
    let fits : EachOf AreMessages x.items y.items = record { count = counts.0; each = λ k u v at listed. (ring_short x fit.0 k u at, ring_short y fit.1 k v listed) } in
    let rest = lists_apart packed_message AreMessages IsEqual messages_apart x.items y.items r s fits counts.1 in
    (same_items x.items y.items rest.0, rest.1)

-- ---- channels

-- both are of one kind, and their parts fit into their bytes
pub record AreAlike {A : Type 0} (x y : ChannelState A) : Type 0 where
  pub kind : has_queue y ≡ has_queue x
  pub packable : IsPackable x
  pub packable_too : IsPackable y

-- both have the same messages, sample and counts
pub record IsSameContent {A : Type 0} (x y : ChannelState A) : Type 0 where
  pub kind : has_queue y ≡ has_queue x
  pub waiting : waiting_in y ≡ waiting_in x
  pub sample : sample_in y ≡ sample_in x
  pub accepted : accepted_in y ≡ accepted_in x
  pub received : received_in y ≡ received_in x
  pub cleared : cleared_in y ≡ cleared_in x

sample_apart : (size size_too : ℕ) (x y : Option Sample) (r s : List ℕ) → IsSlotPackable size x → IsSlotPackable size_too y → packed_sample x ++ r ≡ packed_sample y ++ s → (y ≡ x) × (r ≡ s)
sample_apart size size_too None None r s fit fit_too e = (refl, (heads_apart 0 0 r s e).1)
sample_apart size size_too None (Some y) r s fit fit_too e = absurd (let both = heads_apart 0 1 r ((packed_number y.at.0 ++ packed_message y.message) ++ s) e in let zero_one = both.0 in omega (arith, zero_one))
sample_apart size size_too (Some x) None r s fit fit_too e = absurd (let both = heads_apart 1 0 ((packed_number x.at.0 ++ packed_message x.message) ++ r) s e in let one_zero = both.0 in omega (arith, one_zero))
sample_apart size size_too (Some x) (Some y) r s fit fit_too e =
    let behind = (heads_apart 1 1 ((packed_number x.at.0 ++ packed_message x.message) ++ r) ((packed_number y.at.0 ++ packed_message y.message) ++ s) e).1 in
    let moments = after_number x.at.0 y.at.0 (packed_message x.message) (packed_message y.message) r s fit.at fit_too.at behind in
    let messages = messages_apart x.message y.message r s (fit.wide, fit_too.wide) moments.1 in
    ((λ i. Some (record { message = messages.0 i; at = record { 0 = moments.0 i } })), messages.1)

pub channels_apart : {A : Type 0} → AreApart (packed_channel {A = A}) AreAlike IsSameContent
channels_apart (Queuing x) (Sampling y) r s fit e = absurd (let kind = fit.kind in cc)
channels_apart (Sampling x) (Queuing y) r s fit e = absurd (let kind = fit.kind in cc)
channels_apart (Sampling x) (Sampling y) r s fit e =
    let both = sample_apart x.size y.size x.sample y.sample r s fit.packable fit.packable_too e in
    (record { kind = refl; waiting = refl; sample = both.0; accepted = refl; received = refl; cleared = refl }, both.1)
channels_apart (Queuing x) (Queuing y) r s fit e =
    let mine = fit.packable in
    let its = fit.packable_too in
    let messages = packed_messages x.waiting.items in
    let messages_too = packed_messages y.waiting.items in
    let cleared = packed_number x.cleared ++ messages in
    let cleared_too = packed_number y.cleared ++ messages_too in
    let one = after_number x.accepted y.accepted (packed_number x.received ++ cleared) (packed_number y.received ++ cleared_too) r s mine.accepted its.accepted e in
    let two = after_number x.received y.received cleared cleared_too r s mine.received its.received one.1 in
    let three = after_number x.cleared y.cleared messages messages_too r s mine.cleared its.cleared two.1 in
    let four = rings_apart x.waiting y.waiting r s (mine.waiting, its.waiting) three.1 in
    (record { kind = refl; waiting = four.0; sample = refl; accepted = one.0; received = two.0; cleared = three.0 }, four.1)

pub channels_same : {A : Type 0} (x y : ChannelState A) → IsSameContent x y → packed_channel x ≡ packed_channel y
channels_same (Queuing x) (Sampling y) same = absurd (let kind = same.kind in cc)
channels_same (Sampling x) (Queuing y) same = absurd (let kind = same.kind in cc)
channels_same (Sampling x) (Sampling y) same = λ i. packed_sample (sym same.sample i)
channels_same (Queuing x) (Queuing y) same =
    λ i. packed_number (sym same.accepted i) ++ (packed_number (sym same.received i) ++ (packed_number (sym same.cleared i) ++ packed_messages (sym same.waiting i)))
