-- The configuration of a text in which no pass finds a place is accepted.
use Rattle.apex_config.proofs.Common.{◌≡◌, ℕ, suc, ◌≤◌, ℤ, Bool, true, false, ◌&&◌, leb, List, [], ◌∷◌, ◌++◌, map, length, Option, Some, None, option_map, refl, sym, ap, subst, ◌∙◌, slice_get, list_all, and_parts, false≢true, leb-true, length-map, slice_get-map, Direction, Place, PartitionData, IsConfiguration, ports_of_partition, channel_of, partition_name_of, is_queuing_port, is_queuing_channel, KindsAgree}
use Rattle.apex_config.proofs.Common.{IsRefresh, IsDepth, IsSize, unless, at_each, PortText, PartitionText, ChannelText, ConfigText, at_ports, is_name, bad_port_name, bad_partition_names, bad_channel_name, bad_names, part_in, repeated, repeated_port_names, repeated_names, is_within, is_from_one_to, is_from_one_to_if_any, bad_refresh, bad_channel_numbers, bad_numbers, index_of_channel, channel_of_port}
use Rattle.apex_config.proofs.Common.{unknown_channel, unknown_channels, is_of_kind, other_kind, other_kinds, end_count, may_have_several, without_end, is_alone, one_of_several, wrong_ends, too_many_ports, bad_counts, passes, channel_kind_of, port_kind_of, channel_of_text, partition_of_text, configuration_of, RefusalData, refused_by, first_refusal}
use Rattle.std.specs.Prelude.{is_some, is_none}
use Rattle.apex_types.specs.Name.{IsName}
use Rattle.apex_types.specs.declared.direction.Direction.TheVariants.{Source, Destination}
use Rattle.apex_module.specs.declared.port.Port.{Port}
use Rattle.apex_module.specs.declared.channel.Channel.{Channel}
use Rattle.apex_module.specs.declared.fault.ConfigFault.{ConfigFault}
use Rattle.apex_module.specs.declared.fault.ConfigFault.TheVariants.{BadName, NameTwice, OutOfRange, UnknownChannel, KindDiffers, Sources, Destinations, Counts}
use Rattle.apex_module.specs.declared.limits.TheConstants.{PARTITION_LIMIT, PORT_LIMIT, CHANNEL_LIMIT, SIZE_LIMIT, DEPTH_LIMIT, REFRESH_LIMIT}
use Rattle.apex_config.specs.declared.names.Entries.TheVariants as entries
use Rattle.apex_config.specs.Accepted.{has_names, is_acceptable}
use Rattle.apex_config.proofs.Indexes.{same_index}
use Rattle.apex_config.proofs.PassLemmas.{append_empty, unless_empty, found_at, from_map, to_map, IsPortAt, is_port_at, port_found, IsName-from, within, within_natural, refresh_from, depth_from, few_in, distinct_at, linked_in, is_end_from, one_end, some_end, alone}

-- ---- all passes

passed : (fault : ConfigFault) (places : List Place) (later : Option RefusalData) → refused_by fault places later ≡ None → (places ≡ []) × (later ≡ None)
passed fault [] later h = (refl, h)
passed fault (place ∷ places) later h = absurd cc

pub record PassesAll (text : ConfigText) : Type 0 where
  pub names : bad_names text ≡ []
  pub distinct : repeated_names text ≡ []
  pub numbers : bad_numbers text ≡ []
  pub channels : unknown_channels text ≡ []
  pub kinds : other_kinds text ≡ []
  pub sources : wrong_ends Source text ≡ []
  pub destinations : wrong_ends Destination text ≡ []
  pub counts : bad_counts text ≡ []

pub passes_all : (text : ConfigText) → first_refusal passes text ≡ None → PassesAll text
passes_all text h =
    let one = passed BadName (bad_names text) _ h in
    let two = passed NameTwice (repeated_names text) _ one.1 in
    let three = passed OutOfRange (bad_numbers text) _ two.1 in
    let four = passed UnknownChannel (unknown_channels text) _ three.1 in
    let five = passed KindDiffers (other_kinds text) _ four.1 in
    let six = passed Sources (wrong_ends Source text) _ five.1 in
    let seven = passed Destinations (wrong_ends Destination text) _ six.1 in
    let eight = passed Counts (bad_counts text) _ seven.1 in
    record { names = one.0; distinct = two.0; numbers = three.0; channels = four.0; kinds = five.0; sources = six.0; destinations = seven.0; counts = eight.0 }

names_empty : (text : ConfigText) → PassesAll text → (at_each bad_partition_names 0 text.partitions ≡ []) × (at_each bad_channel_name 0 text.channels ≡ [])
unfolding bad_names
names_empty text pass = append_empty _ _ pass.names

partition_names : (text : ConfigText) → PassesAll text → (p : ℕ) (partition : PartitionText) → slice_get text.partitions p ≡ Some partition
    → (is_name partition.name ≡ true) × (at_each (bad_port_name p) 0 partition.ports ≡ [])
partition_names text pass p partition found =
    let both = append_empty _ _ (found_at bad_partition_names text.partitions p partition (names_empty text pass).0 found) in
    (unless_empty (is_name partition.name) _ both.0, both.1)

port_name_is : (text : ConfigText) → PassesAll text → (p id : ℕ) (port : Port) (at : IsPortAt text p id port) → is_name at.entry.name ≡ true
port_name_is text pass p id port at =
    unless_empty (is_name at.entry.name) _ (found_at (bad_port_name p) at.partition.ports at.index at.entry (partition_names text pass p at.partition at.found).1 at.inside)

channel_name_is : (text : ConfigText) → PassesAll text → (c : ℕ) (channel : ChannelText) → slice_get text.channels c ≡ Some channel → is_name channel.name ≡ true
channel_name_is text pass c channel found = unless_empty (is_name channel.name) _ (found_at bad_channel_name text.channels c channel (names_empty text pass).1 found)

distinct_empty : (text : ConfigText) → PassesAll text
    → (repeated (part_in entries.Partitions) (map (λ partition. partition.name) text.partitions) ≡ [])
    × (at_each repeated_port_names 0 text.partitions ≡ [])
    × (repeated (part_in entries.Channels) (map (λ channel. channel.name) text.channels) ≡ [])
unfolding repeated_names
distinct_empty text pass =
    let both = append_empty (repeated (part_in entries.Partitions) (map (λ partition. partition.name) text.partitions) ++ at_each repeated_port_names 0 text.partitions) _ pass.distinct in
    let first = append_empty (repeated (part_in entries.Partitions) (map (λ partition. partition.name) text.partitions)) _ both.0 in
    (first.0, first.1, both.1)

numbers_empty : (text : ConfigText) → PassesAll text → (at_ports bad_refresh text.partitions ≡ []) × (at_each bad_channel_numbers 0 text.channels ≡ [])
unfolding bad_numbers
numbers_empty text pass = append_empty _ _ pass.numbers

channel_numbers : (text : ConfigText) → PassesAll text → (c : ℕ) (channel : ChannelText) → slice_get text.channels c ≡ Some channel
    → (is_from_one_to SIZE_LIMIT channel.size ≡ true) × (is_from_one_to_if_any DEPTH_LIMIT channel.depth ≡ true)
channel_numbers text pass c channel found =
    let both = append_empty _ _ (found_at bad_channel_numbers text.channels c channel (numbers_empty text pass).1 found) in
    (unless_empty (is_from_one_to SIZE_LIMIT channel.size) _ both.0, unless_empty (is_from_one_to_if_any DEPTH_LIMIT channel.depth) _ both.1)

linked : (text : ConfigText) → PassesAll text → (p id : ℕ) (port : Port) (at : IsPortAt text p id port)
    → (channel : ChannelText) × (channel_of_port text.channels at.entry ≡ Some channel) × (is_queuing_port (port_kind_of at.entry.refresh) ≡ is_queuing_channel (channel_kind_of channel.depth))
unfolding unknown_channels other_kinds
linked text pass p id port at =
    linked_in at.entry (channel_of_port text.channels at.entry)
    (unless_empty (is_some (channel_of_port text.channels at.entry)) _ (port_found text (unknown_channel text.channels) p id port at pass.channels))
    (unless_empty (is_of_kind at.entry (channel_of_port text.channels at.entry)) _ (port_found text (other_kind text.channels) p id port at pass.kinds))

ends_empty : (text : ConfigText) (direction : Direction) → wrong_ends direction text ≡ [] → (at_each (without_end direction text) 0 text.channels ≡ []) × (at_ports (one_of_several direction text) text.partitions ≡ [])
unfolding wrong_ends
ends_empty text direction none = append_empty _ _ none

end_of_channel : (text : ConfigText) (direction : Direction) → wrong_ends direction text ≡ [] → (c : ℕ) (channel : ChannelText) → slice_get text.channels c ≡ Some channel
    → 1 ≤ end_count text.channels direction c text.partitions
end_of_channel text direction none c channel found = leb-true 1 _ (unless_empty _ _ (found_at (without_end direction text) text.channels c channel (ends_empty text direction none).0 found))

few_ends : (text : ConfigText) (direction : Direction) → wrong_ends direction text ≡ [] → (p id : ℕ) (port : Port) (at : IsPortAt text p id port)
    → at.entry.direction ≡ direction → may_have_several direction (channel_of_port text.channels at.entry) ≡ false
    → end_count text.channels direction (index_of_channel text.channels at.entry.channel) text.partitions ≤ 1
few_ends text direction none p id port at same single =
    alone text direction at.entry same single (unless_empty (is_alone direction text at.entry) _ (port_found text (one_of_several direction text) p id port at (ends_empty text direction none).1))

-- two ends of one direction that are on one channel that may have only one
same_end : (text : ConfigText) (direction : Direction) → wrong_ends direction text ≡ [] → (p id : ℕ) (port : Port) (q jd : ℕ) (other : Port) (at : IsPortAt text p id port) (ot : IsPortAt text q jd other)
    → port.direction ≡ direction → other.direction ≡ direction → port.channel ≡ other.channel → may_have_several direction (channel_of_port text.channels at.entry) ≡ false → (p ≡ q) × (id ≡ jd)
same_end text direction none p id port q jd other at ot here there same single =
    let first : at.entry.direction ≡ direction = sym (ap (λ (x : Port). x.direction) at.is) ∙ here in
    let second : ot.entry.direction ≡ direction = sym (ap (λ (x : Port). x.direction) ot.is) ∙ there in
    let c = index_of_channel text.channels at.entry.channel in
    let also : index_of_channel text.channels ot.entry.channel ≡ c = sym (ap (λ (x : Port). x.channel) ot.is) ∙ sym same ∙ ap (λ (x : Port). x.channel) at.is in
    one_end text direction c (few_ends text direction none p id port at first single) p id port q jd other at ot
    (is_end_from text.channels direction c at.entry first refl) (is_end_from text.channels direction c ot.entry second also)

counts_empty : (text : ConfigText) → PassesAll text → (is_within PARTITION_LIMIT (length text.partitions) ≡ true) × (at_each too_many_ports 0 text.partitions ≡ []) × (leb (length text.channels) CHANNEL_LIMIT ≡ true)
unfolding bad_counts
counts_empty text pass =
    let both = append_empty (unless (is_within PARTITION_LIMIT (length text.partitions)) _ ++ at_each too_many_ports 0 text.partitions) _ pass.counts in
    let first = append_empty (unless (is_within PARTITION_LIMIT (length text.partitions)) _) _ both.0 in
    (unless_empty (is_within PARTITION_LIMIT (length text.partitions)) _ first.0, first.1, unless_empty (leb (length text.channels) CHANNEL_LIMIT) _ both.1)

-- ---- tests of all entries

all_from : {X : Type 0} (find : ℕ → X → List Place) (test : X → Bool) → ((i : ℕ) (x : X) → find i x ≡ [] → test x ≡ true) → (n : ℕ) (xs : List X) → at_each find n xs ≡ [] → list_all test xs ≡ true
all_from find test each n [] none = refl
all_from find test each n (x ∷ xs) none =
    let parts = append_empty (find n x) (at_each find (suc n) xs) none in
    rw (each n x parts.0, all_from find test each (suc n) xs parts.1) refl

both_hold : (a b : Bool) → a ≡ true → b ≡ true → (a && b) ≡ true
both_hold true b h k = k
both_hold false b h k = absurd (false≢true h)

all_both : {X : Type 0} (p q : X → Bool) (xs : List X) → list_all p xs ≡ true → list_all q xs ≡ true → list_all (λ x. p x && q x) xs ≡ true
all_both p q [] h k = refl
all_both p q (x ∷ xs) h k =
    let first = and_parts (p x) (list_all p xs) h in
    let second = and_parts (q x) (list_all q xs) k in
    both_hold _ _ (both_hold (p x) (q x) first.0 second.0) (all_both p q xs first.1 second.1)

partition_has_names : (p : ℕ) (partition : PartitionText) → bad_partition_names p partition ≡ [] → has_names partition ≡ true
partition_has_names p partition none =
    let parts = append_empty _ _ none in
    both_hold _ _ (unless_empty (is_name partition.name) _ parts.0)
    (all_from (bad_port_name p) (λ (port : PortText). is_name port.name) (λ i port here. unless_empty (is_name port.name) _ here) 0 partition.ports parts.1)

pub all_have_names : (text : ConfigText) → PassesAll text → list_all has_names text.partitions ≡ true
all_have_names text pass = all_from bad_partition_names has_names partition_has_names 0 text.partitions (names_empty text pass).0

abbrev has_numbers : ChannelText → Bool
has_numbers channel = is_from_one_to SIZE_LIMIT channel.size && is_from_one_to_if_any DEPTH_LIMIT channel.depth

channel_has_numbers : (c : ℕ) (channel : ChannelText) → bad_channel_numbers c channel ≡ [] → has_numbers channel ≡ true
channel_has_numbers c channel none =
    let parts = append_empty _ _ none in
    both_hold _ _ (unless_empty (is_from_one_to SIZE_LIMIT channel.size) _ parts.0) (unless_empty (is_from_one_to_if_any DEPTH_LIMIT channel.depth) _ parts.1)

pub all_are_acceptable : (text : ConfigText) → PassesAll text → list_all is_acceptable text.channels ≡ true
all_are_acceptable text pass =
    all_both (λ (channel : ChannelText). is_name channel.name) has_numbers text.channels
    (all_from bad_channel_name (λ (channel : ChannelText). is_name channel.name) (λ c channel here. unless_empty (is_name channel.name) _ here) 0 text.channels (names_empty text pass).1)
    (all_from bad_channel_numbers has_numbers channel_has_numbers 0 text.channels (numbers_empty text pass).1)

-- ---- the configuration

named_in : (channels : List ChannelText) (o : Option PartitionText) → option_map (λ partition. partition.name) o ≡ option_map (λ partition. partition.name) (option_map (partition_of_text channels) o)
named_in channels None = refl
named_in channels (Some partition) = refl

partition_named_at : (text : ConfigText) (p : ℕ) (name : List ℕ) → partition_name_of (configuration_of text) p ≡ Some name → slice_get (map (λ partition. partition.name) text.partitions) p ≡ Some name
partition_named_at text p name found =
    slice_get-map (λ (x : PartitionText). x.name) text.partitions p
    ∙ named_in text.channels (slice_get text.partitions p)
    ∙ sym (ap (option_map (λ (x : PartitionData). x.name)) (slice_get-map (partition_of_text text.channels) text.partitions p))
    ∙ found

partition_name_is : (text : ConfigText) → PassesAll text → (p : ℕ) (name : List ℕ) → partition_name_of (configuration_of text) p ≡ Some name → IsName name
partition_name_is text pass p name found =
    let at = from_map (λ (x : PartitionText). x.name) text.partitions p name (partition_named_at text p name found) in
    subst IsName (sym at.2) (IsName-from at.0.name (partition_names text pass p at.0 at.1).0)

ports_distinct : (text : ConfigText) → PassesAll text → (p id jd : ℕ) (port other : Port) → IsPortAt text p id port → IsPortAt text p jd other → port.name ≡ other.name → id ≡ jd
ports_distinct text pass p id jd port other at ot same =
    let partition : ot.partition ≡ at.partition = same_index text.partitions p ot.partition at.partition ot.found at.found in
    let inside : slice_get at.partition.ports ot.index ≡ Some ot.entry = ap (λ (x : PartitionText). slice_get x.ports ot.index) (sym partition) ∙ ot.inside in
    let names = λ (x : PortText). x.name in
    let once = found_at repeated_port_names text.partitions p at.partition (distinct_empty text pass).1 at.found in
    let name : ot.entry.name ≡ at.entry.name = sym (ap (λ (x : Port). x.name) ot.is) ∙ sym same ∙ ap (λ (x : Port). x.name) at.is in
    let index : at.index ≡ ot.index = distinct_at (part_in (entries.PortsOf p)) (map names at.partition.ports) at.index ot.index at.entry.name once (to_map names at.partition.ports at.index at.entry at.inside)
    (to_map names at.partition.ports ot.index ot.entry inside ∙ ap Some name) in
    at.numbered ∙ (ap suc index ∙ sym ot.numbered)

channels_distinct : (text : ConfigText) → PassesAll text → (c d : ℕ) (channel other : Channel) → channel_of (configuration_of text) c ≡ Some channel → channel_of (configuration_of text) d ≡ Some other → channel.name ≡ other.name → c ≡ d
channels_distinct text pass c d channel other here there same =
    let at = from_map channel_of_text text.channels c channel here in
    let ot = from_map channel_of_text text.channels d other there in
    let names = λ (x : ChannelText). x.name in
    let name : ot.0.name ≡ at.0.name = sym (ap (λ (x : Channel). x.name) ot.2) ∙ sym same ∙ ap (λ (x : Channel). x.name) at.2 in
    distinct_at (part_in entries.Channels) (map names text.channels) c d at.0.name (distinct_empty text pass).2 (to_map names text.channels c at.0 at.1) (to_map names text.channels d ot.0 ot.1 ∙ ap Some name)

single : (channel : ChannelText) → is_queuing_channel (channel_kind_of channel.depth) ≡ true → may_have_several Destination (Some channel) ≡ false
single channel queuing = by_depth channel.depth queuing
  where
    by_depth : (depth : Option ℤ) → is_queuing_channel (channel_kind_of depth) ≡ true → is_none depth ≡ false
    by_depth None h = absurd (false≢true h)
    by_depth (Some depth) h = refl

one_destination_of : (text : ConfigText) → PassesAll text → (p id : ℕ) (port : Port) (q jd : ℕ) (other : Port) → IsPortAt text p id port → IsPortAt text q jd other
    → port.direction ≡ Destination → other.direction ≡ Destination → port.channel ≡ other.channel → is_queuing_port port.kind ≡ true → (p ≡ q) × (id ≡ jd)
one_destination_of text pass p id port q jd other at ot here there same queuing =
    let channel = linked text pass p id port at in
    let kind : is_queuing_port (port_kind_of at.entry.refresh) ≡ true = sym (ap (λ (x : Port). is_queuing_port x.kind) at.is) ∙ queuing in
    same_end text Destination pass.destinations p id port q jd other at ot here there same
    (ap (may_have_several Destination) channel.1 ∙ single channel.0 (sym channel.2 ∙ kind))

one_source_of : (text : ConfigText) → PassesAll text → (p id : ℕ) (port : Port) (q jd : ℕ) (other : Port) → IsPortAt text p id port → IsPortAt text q jd other
    → port.direction ≡ Source → other.direction ≡ Source → port.channel ≡ other.channel → (p ≡ q) × (id ≡ jd)
one_source_of text pass p id port q jd other at ot here there same =
    same_end text Source pass.sources p id port q jd other at ot here there same (ap (may_have_several Source) (linked text pass p id port at).1)

linked_from : (text : ConfigText) → PassesAll text → (p id : ℕ) (port : Port) → IsPortAt text p id port
    → (channel : Channel) × (channel_of (configuration_of text) port.channel ≡ Some channel) × KindsAgree port channel
linked_from text pass p id port at =
    let channel = linked text pass p id port at in
    subst (λ (x : Port). (channel : Channel) × (channel_of (configuration_of text) x.channel ≡ Some channel) × KindsAgree x channel) (sym at.is)
    (channel_of_text channel.0, to_map channel_of_text text.channels (index_of_channel text.channels at.entry.channel) channel.0 channel.1, channel.2)

pub IsConfiguration-from : (text : ConfigText) → first_refusal passes text ≡ None → IsConfiguration (configuration_of text)
IsConfiguration-from text accepted =
    let pass : PassesAll text = passes_all text accepted in
    let partitions : (1 ≤ length text.partitions) × (length text.partitions ≤ PARTITION_LIMIT) = within PARTITION_LIMIT (length text.partitions) (counts_empty text pass).0 in
    let many : length (map (partition_of_text text.channels) text.partitions) ≡ length text.partitions = length-map text.partitions (partition_of_text text.channels) in
    record {
      some_partition = subst (λ (n : ℕ). 1 ≤ n) (sym many) partitions.0;
      few_partitions = subst (λ (n : ℕ). n ≤ PARTITION_LIMIT) (sym many) partitions.1;
      few_ports = λ p. subst (λ (o : Option PartitionData). length (ports_of_partition o) ≤ PORT_LIMIT) (sym (slice_get-map (partition_of_text text.channels) text.partitions p))
          (few_in text p (slice_get text.partitions p) refl (counts_empty text pass).1);
      few_channels = subst (λ (n : ℕ). n ≤ CHANNEL_LIMIT) (sym (length-map text.channels channel_of_text)) (leb-true (length text.channels) CHANNEL_LIMIT (counts_empty text pass).2);
      refresh = λ p id port found.
          let at = is_port_at text p id port found in
          subst (λ (x : Port). IsRefresh x.kind) (sym at.is)
          (refresh_from at.entry.refresh (unless_empty (is_from_one_to_if_any REFRESH_LIMIT at.entry.refresh) _ (port_found text bad_refresh p id port at (numbers_empty text pass).0)));
      size = λ c channel found.
          let at = from_map channel_of_text text.channels c channel found in
          subst (λ (x : Channel). IsSize x.size) (sym at.2) (within_natural SIZE_LIMIT at.0.size (channel_numbers text pass c at.0 at.1).0);
      depth = λ c channel found.
          let at = from_map channel_of_text text.channels c channel found in
          subst (λ (x : Channel). IsDepth x.kind) (sym at.2) (depth_from at.0.depth (channel_numbers text pass c at.0 at.1).1);
      partition_name = partition_name_is text pass;
      port_name = λ p id port found.
          let at = is_port_at text p id port found in
          subst (λ (x : Port). IsName x.name) (sym at.is) (IsName-from at.entry.name (port_name_is text pass p id port at));
      channel_name = λ c channel found.
          let at = from_map channel_of_text text.channels c channel found in
          subst (λ (x : Channel). IsName x.name) (sym at.2) (IsName-from at.0.name (channel_name_is text pass c at.0 at.1));
      distinct_partitions = λ p q name here there.
          distinct_at (part_in entries.Partitions) (map (λ (x : PartitionText). x.name) text.partitions) p q name (distinct_empty text pass).0 (partition_named_at text p name here) (partition_named_at text q name there);
      distinct_ports = λ p id jd port other here there same. ports_distinct text pass p id jd port other (is_port_at text p id port here) (is_port_at text p jd other there) same;
      distinct_channels = channels_distinct text pass;
      linked = λ p id port found. linked_from text pass p id port (is_port_at text p id port found);
      one_source = λ p id port q jd other here there source also same. one_source_of text pass p id port q jd other (is_port_at text p id port here) (is_port_at text q jd other there) source also same;
      has_source = λ c channel found. some_end text Source c (end_of_channel text Source pass.sources c (from_map channel_of_text text.channels c channel found).0 (from_map channel_of_text text.channels c channel found).1);
      one_destination = λ p id port q jd other here there destination also same queuing. one_destination_of text pass p id port q jd other (is_port_at text p id port here) (is_port_at text q jd other there) destination also same queuing;
      has_destination = λ c channel found. some_end text Destination c (end_of_channel text Destination pass.destinations c (from_map channel_of_text text.channels c channel found).0 (from_map channel_of_text text.channels c channel found).1);
    }
