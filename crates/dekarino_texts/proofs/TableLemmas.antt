-- The rows of the table of ports, one after the other.
use Rattle.dekarino_texts.proofs.Common.{◌≡◌, ℕ, ◌+◌, ◌<◌, ◌≤◌, List, [], ◌∷◌, ◌++◌, length, drop, Option, Some, None, sym, ◌∙◌, add-one, refl, slice_get, Configuration, PartitionData, ports_of, port_at, drop_at, place_if, places_in, partners_of, port_row, port_rows, partition_rows}
use Rattle.std.proofs.Math.ListN.{drop_of_length-le}
use Rattle.std.proofs.lemmas.Option.{slice_get-get_or}
use Rattle.apex_module.specs.declared.port.Port.{Port}
use Rattle.apex_module.proofs.PortLemmas.{port_at_suc}

-- ---- partners

pub place_cut : (port : Port) (p : ℕ) (ports : List Port) (index : ℕ) (other : Port) → slice_get ports index ≡ Some other
    → places_in port p (index + 1) (drop index ports) ≡ place_if port p (index + 1) other ++ places_in port p (index + 1 + 1) (drop (index + 1) ports)
unfolding places_in
place_cut port p ports index other is = rw (drop_at ports index other is) refl

pub place_end : (port : Port) (p : ℕ) (ports : List Port) (index : ℕ) → length ports ≤ index → places_in port p (index + 1) (drop index ports) ≡ []
unfolding places_in
place_end port p ports index past = rw (drop_of_length-le ports past) refl

partners_by : (port : Port) (config : Configuration) (p : ℕ) (found : Option PartitionData) → slice_get config.partitions p ≡ found → p < length config.partitions
    → partners_of port p (drop p config.partitions) ≡ places_in port p 1 (ports_of config p) ++ partners_of port (p + 1) (drop (p + 1) config.partitions)
unfolding partners_of
partners_by port config p (Some partition) is inside = rw (drop_at config.partitions p partition is, is) refl
partners_by port config p None is inside =
    let some = slice_get-get_or config.partitions p (record { name = []; ports = [] }) inside in
    absurd cc

pub partners_cut : (port : Port) (config : Configuration) (p : ℕ) → p < length config.partitions
    → partners_of port p (drop p config.partitions) ≡ places_in port p 1 (ports_of config p) ++ partners_of port (p + 1) (drop (p + 1) config.partitions)
partners_cut port config p inside = partners_by port config p (slice_get config.partitions p) refl inside

pub partners_end : (port : Port) (partitions : List PartitionData) (p : ℕ) → length partitions ≤ p → partners_of port p (drop p partitions) ≡ []
unfolding partners_of
partners_end port partitions p past = rw (drop_of_length-le partitions past) refl

-- ---- rows

pub port_cut : (config : Configuration) (p : ℕ) (ports : List Port) (index : ℕ) (port : Port) → slice_get ports index ≡ Some port
    → port_rows config p (index + 1) (drop index ports) ≡ (port_row config p (index + 1) port ∷ []) ++ port_rows config p (index + 1 + 1) (drop (index + 1) ports)
unfolding port_rows
port_cut config p ports index port is = rw (drop_at ports index port is) refl

pub port_end : (config : Configuration) (p : ℕ) (ports : List Port) (index : ℕ) → length ports ≤ index → port_rows config p (index + 1) (drop index ports) ≡ []
unfolding port_rows
port_end config p ports index past = rw (drop_of_length-le ports past) refl

partition_by : (config : Configuration) (p : ℕ) (found : Option PartitionData) → slice_get config.partitions p ≡ found → p < length config.partitions
    → partition_rows config p (drop p config.partitions) ≡ (record { partition = p; id = 0; partners = [] } ∷ port_rows config p 1 (ports_of config p)) ++ partition_rows config (p + 1) (drop (p + 1) config.partitions)
unfolding partition_rows
partition_by config p (Some partition) is inside = rw (drop_at config.partitions p partition is, is) refl
partition_by config p None is inside =
    let some = slice_get-get_or config.partitions p (record { name = []; ports = [] }) inside in
    absurd cc

pub partition_cut : (config : Configuration) (p : ℕ) → p < length config.partitions
    → partition_rows config p (drop p config.partitions) ≡ (record { partition = p; id = 0; partners = [] } ∷ port_rows config p 1 (ports_of config p)) ++ partition_rows config (p + 1) (drop (p + 1) config.partitions)
partition_cut config p inside = partition_by config p (slice_get config.partitions p) refl inside

pub partition_end : (config : Configuration) (p : ℕ) → length config.partitions ≤ p → partition_rows config p (drop p config.partitions) ≡ []
unfolding partition_rows
partition_end config p past = rw (drop_of_length-le config.partitions past) refl

-- ---- the port at a index

pub port_at_index : (ports : List Port) (index : ℕ) (port : Port) → port_at ports (index + 1) ≡ Some port → slice_get ports index ≡ Some port
port_at_index ports index port is = sym (port_at_suc ports index) ∙ (rw add-one at is)
