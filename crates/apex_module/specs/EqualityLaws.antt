-- The tests of equality decide exactly whether two values are equal.
use Rattle.std.proofs.Common.{◌≡◌, Bool, true, false, ◌&&◌, eqb, List, refl, sym, ap, ◌∙◌}
use Rattle.std.specs.Bool.{Decides}
use Rattle.std.specs.Cmp.{IsEquivalence}
use Rattle.std.specs.Cmp.Lexicographic.{pointwise, pointwise_decides}
use Rattle.std.specs.Str.{bytes_eq}
use Rattle.std.proofs.lemmas.Bool.{and_parts, and_from, false≢true, eqb-true}
use Rattle.std.proofs.lemmas.Bool.Decides.{Decides-eqb, same_from_decides}
use Rattle.std.proofs.lemmas.Slice.Eq.{bytes_eq-Decides}
use Rattle.apex_types.specs.declared.direction.Direction.{Direction}
use Rattle.apex_types.specs.declared.direction.Direction.TheVariants.{Source, Destination}
use Rattle.apex_module.specs.declared.port.Port.{Port}
use Rattle.apex_module.specs.declared.port.PortKind.{PortKind}
use Rattle.apex_module.specs.declared.port.PortKind.TheVariants as port_kind
use Rattle.apex_module.specs.declared.channel.Channel.{Channel}
use Rattle.apex_module.specs.declared.channel.ChannelKind.{ChannelKind}
use Rattle.apex_module.specs.declared.channel.ChannelKind.TheVariants as channel_kind
use Rattle.apex_module.specs.Configuration.{PartitionData, Configuration}
use Rattle.apex_module.specs.Equality.{same_direction, equal_port_kinds, equal_channel_kinds, equal_ports, equal_channels, equal_partitions, equal_configurations}

pub direction_decides : (a b : Direction) → Decides (same_direction a b) (a ≡ b)
direction_decides Source Source = (λ h. refl, λ h. refl)
direction_decides Source Destination = (λ h. absurd (false≢true h), λ h. absurd cc)
direction_decides Destination Source = (λ h. absurd (false≢true h), λ h. absurd cc)
direction_decides Destination Destination = (λ h. refl, λ h. refl)

port_kind_decides : (a b : PortKind) → Decides (equal_port_kinds a b) (a ≡ b)
port_kind_decides port_kind.Queuing port_kind.Queuing = (λ h. refl, λ h. refl)
port_kind_decides port_kind.Queuing (port_kind.Sampling refresh) = (λ h. absurd (false≢true h), λ h. absurd cc)
port_kind_decides (port_kind.Sampling refresh) port_kind.Queuing = (λ h. absurd (false≢true h), λ h. absurd cc)
port_kind_decides (port_kind.Sampling refresh) (port_kind.Sampling other) =
    (λ h. ap (λ n. port_kind.Sampling n) (eqb-true refresh other h), λ h. let same : refresh ≡ other = cc in (Decides-eqb refresh other).1 same)

channel_kind_decides : (a b : ChannelKind) → Decides (equal_channel_kinds a b) (a ≡ b)
channel_kind_decides (channel_kind.Queuing depth) (channel_kind.Queuing other) =
    (λ h. ap (λ n. channel_kind.Queuing n) (eqb-true depth other h), λ h. let same : depth ≡ other = cc in (Decides-eqb depth other).1 same)
channel_kind_decides (channel_kind.Queuing depth) channel_kind.Sampling = (λ h. absurd (false≢true h), λ h. absurd cc)
channel_kind_decides channel_kind.Sampling (channel_kind.Queuing depth) = (λ h. absurd (false≢true h), λ h. absurd cc)
channel_kind_decides channel_kind.Sampling channel_kind.Sampling = (λ h. refl, λ h. refl)

port_is : (a b : Port) → equal_ports a b ≡ true → a ≡ b
unfolding equal_ports
port_is a b h =
    let one = and_parts (bytes_eq a.name b.name && equal_port_kinds a.kind b.kind && same_direction a.direction b.direction) (eqb a.channel b.channel) h in
    let two = and_parts (bytes_eq a.name b.name && equal_port_kinds a.kind b.kind) (same_direction a.direction b.direction) one.0 in
    let three = and_parts (bytes_eq a.name b.name) (equal_port_kinds a.kind b.kind) two.0 in
    let name : a.name ≡ b.name = (bytes_eq-Decides a.name b.name).0 three.0 in
    let kind : a.kind ≡ b.kind = (port_kind_decides a.kind b.kind).0 three.1 in
    let direction : a.direction ≡ b.direction = (direction_decides a.direction b.direction).0 two.1 in
    let channel : a.channel ≡ b.channel = eqb-true a.channel b.channel one.1 in
    λ i. record { name = name i; kind = kind i; direction = direction i; channel = channel i }

port_from : (a b : Port) → a ≡ b → equal_ports a b ≡ true
unfolding equal_ports
port_from a b h =
    and_from _ _ (and_from _ _ (and_from _ _ ((bytes_eq-Decides a.name b.name).1 (ap (λ x. x.name) h)) ((port_kind_decides a.kind b.kind).1 (ap (λ x. x.kind) h)))
    ((direction_decides a.direction b.direction).1 (ap (λ x. x.direction) h))) ((Decides-eqb a.channel b.channel).1 (ap (λ x. x.channel) h))

channel_is : (a b : Channel) → equal_channels a b ≡ true → a ≡ b
unfolding equal_channels
channel_is a b h =
    let one = and_parts (bytes_eq a.name b.name && eqb a.size b.size) (equal_channel_kinds a.kind b.kind) h in
    let two = and_parts (bytes_eq a.name b.name) (eqb a.size b.size) one.0 in
    let name : a.name ≡ b.name = (bytes_eq-Decides a.name b.name).0 two.0 in
    let size : a.size ≡ b.size = eqb-true a.size b.size two.1 in
    let kind : a.kind ≡ b.kind = (channel_kind_decides a.kind b.kind).0 one.1 in
    λ i. record { name = name i; size = size i; kind = kind i }

channel_from : (a b : Channel) → a ≡ b → equal_channels a b ≡ true
unfolding equal_channels
channel_from a b h =
    and_from _ _ (and_from _ _ ((bytes_eq-Decides a.name b.name).1 (ap (λ x. x.name) h)) ((Decides-eqb a.size b.size).1 (ap (λ x. x.size) h)))
    ((channel_kind_decides a.kind b.kind).1 (ap (λ x. x.kind) h))

ports_decide : (xs ys : List Port) → Decides (pointwise equal_ports xs ys) (xs ≡ ys)
ports_decide = pointwise_decides (λ a b. (port_is a b, port_from a b))

partition_is : (a b : PartitionData) → equal_partitions a b ≡ true → a ≡ b
unfolding equal_partitions
partition_is a b h =
    let parts = and_parts (bytes_eq a.name b.name) (pointwise equal_ports a.ports b.ports) h in
    let name : a.name ≡ b.name = (bytes_eq-Decides a.name b.name).0 parts.0 in
    let ports : a.ports ≡ b.ports = (ports_decide a.ports b.ports).0 parts.1 in
    λ i. record { name = name i; ports = ports i }

partition_from : (a b : PartitionData) → a ≡ b → equal_partitions a b ≡ true
unfolding equal_partitions
partition_from a b h = and_from _ _ ((bytes_eq-Decides a.name b.name).1 (ap (λ x. x.name) h)) ((ports_decide a.ports b.ports).1 (ap (λ x. x.ports) h))

partitions_decide : (xs ys : List PartitionData) → Decides (pointwise equal_partitions xs ys) (xs ≡ ys)
partitions_decide = pointwise_decides (λ a b. (partition_is a b, partition_from a b))

channels_decide : (xs ys : List Channel) → Decides (pointwise equal_channels xs ys) (xs ≡ ys)
channels_decide = pointwise_decides (λ a b. (channel_is a b, channel_from a b))

configuration_is : (a b : Configuration) → equal_configurations a b ≡ true → a ≡ b
unfolding equal_configurations
configuration_is a b h =
    let parts = and_parts (pointwise equal_partitions a.partitions b.partitions) (pointwise equal_channels a.channels b.channels) h in
    let partitions : a.partitions ≡ b.partitions = (partitions_decide a.partitions b.partitions).0 parts.0 in
    let channels : a.channels ≡ b.channels = (channels_decide a.channels b.channels).0 parts.1 in
    λ i. record { partitions = partitions i; channels = channels i }

configuration_from : (a b : Configuration) → a ≡ b → equal_configurations a b ≡ true
unfolding equal_configurations
configuration_from a b h =
    and_from _ _ ((partitions_decide a.partitions b.partitions).1 (ap (λ x. x.partitions) h)) ((channels_decide a.channels b.channels).1 (ap (λ x. x.channels) h))

pub equal_configurations-Decides : (a b : Configuration) → Decides (equal_configurations a b) (a ≡ b)
equal_configurations-Decides a b = (configuration_is a b, configuration_from a b)

pub equal_partitions-Decides : (a b : PartitionData) → Decides (equal_partitions a b) (a ≡ b)
equal_partitions-Decides a b = (partition_is a b, partition_from a b)

equivalence : {K : Type 0} (E : K → K → Bool) → ((a b : K) → Decides (E a b) (a ≡ b)) → IsEquivalence E
equivalence E decides = record {
  refl = λ x. (decides x x).1 refl;
  symm = λ x y. same_from_decides (E x y) (E y x) (decides x y) (λ h. sym ((decides y x).0 h), λ h. (decides y x).1 (sym h));
  congr = λ x y z h. ap (λ w. E w z) ((decides x y).0 h);
}

pub equal_configurations-IsEquivalence : IsEquivalence equal_configurations
equal_configurations-IsEquivalence = equivalence equal_configurations equal_configurations-Decides

pub equal_partitions-IsEquivalence : IsEquivalence equal_partitions
equal_partitions-IsEquivalence = equivalence equal_partitions equal_partitions-Decides

-- two tests that each decide equality agree
pub same_tests : {K : Type 0} (E F : K → K → Bool) → ((a b : K) → Decides (E a b) (a ≡ b)) → ((a b : K) → Decides (F a b) (a ≡ b)) → (xs ys : List K) → pointwise E xs ys ≡ pointwise F xs ys
same_tests E F one other xs ys =
    let left : Decides (pointwise E xs ys) (xs ≡ ys) = pointwise_decides one xs ys in
    let right : Decides (pointwise F xs ys) (xs ≡ ys) = pointwise_decides other xs ys in
    same_from_decides (pointwise E xs ys) (pointwise F xs ys) left right

pub equal_ports-Decides : (a b : Port) → Decides (equal_ports a b) (a ≡ b)
equal_ports-Decides a b = (port_is a b, port_from a b)

pub equal_channels-Decides : (a b : Channel) → Decides (equal_channels a b) (a ≡ b)
equal_channels-Decides a b = (channel_is a b, channel_from a b)

-- one test after the other
pub both_hold : (a b r : Bool) → a ≡ true → r ≡ b → r ≡ (a && b)
both_hold true b r h e = e
both_hold false b r h e = absurd (false≢true h)

pub first_fails : (a b r : Bool) → r ≡ a → r ≡ false → r ≡ (a && b)
first_fails true b r e f = absurd (false≢true (sym f ∙ e))
first_fails false b r e f = f
