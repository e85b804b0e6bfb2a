-- The table of a configuration's ports: a row for each partition, and after it one for each of its ports.
use Rattle.std.specs.Prelude.{ℕ, ◌+◌, ◌==◌, Bool, true, false, ◌&&◌, if◌then◌else◌, List, [], ◌∷◌, ◌++◌}
use Rattle.dekarino_texts.specs.Prelude.{Configuration, PartitionData, Port}
use Rattle.apex_types.specs.declared.direction.Direction.{Direction}
use Rattle.apex_types.specs.declared.direction.Direction.TheVariants.{Source, Destination}
use Rattle.dekarino_texts.specs.declared.table.PortPlace.{PortPlace}
use Rattle.dekarino_texts.specs.declared.table.TableRow.{TableRow}
use Rattle.dekarino_texts.specs.declared.table.TableRow.TheVariants as rows

-- ---- partners

abbrev pub is_opposite : Direction → Direction → Bool
is_opposite Source Destination = true
is_opposite Destination Source = true
is_opposite direction other = false

-- a partner of a port is a port at the other end of its channel
abbrev pub is_partner : Port → Port → Bool
is_partner port other = other.channel == port.channel && is_opposite port.direction other.direction

abbrev pub place_if : Port → ℕ → ℕ → Port → List PortPlace
place_if port p id other = if is_partner port other then record { partition = p; id = id } ∷ [] else []

-- the partners of a port among ports of partition p, of which the first has this identifier
unfoldable pub places_in : Port → ℕ → ℕ → List Port → List PortPlace
places_in port p id [] = []
places_in port p id (other ∷ rest) = place_if port p id other ++ places_in port p (id + 1) rest

-- the partners of a port among the ports of partitions, of which the first has this number
unfoldable pub partners_of : Port → ℕ → List PartitionData → List PortPlace
partners_of port p [] = []
partners_of port p (partition ∷ rest) = places_in port p 1 partition.ports ++ partners_of port (p + 1) rest

-- ---- rows

-- a row of a port has its place and its partners; one of a partition has the identifier 0
pub record RowData : Type 0 where
  pub partition : ℕ
  pub id : ℕ
  pub partners : List PortPlace

abbrev pub row_data : TableRow → RowData
row_data (rows.Partition p) = record { partition = p; id = 0; partners = [] }
row_data (rows.Port place partners) = record { partition = place.partition; id = place.id; partners = partners.items }

abbrev pub port_row : Configuration → ℕ → ℕ → Port → RowData
port_row config p id port = record { partition = p; id = id; partners = partners_of port 0 config.partitions }

-- the rows of ports of partition p, of which the first has this identifier
unfoldable pub port_rows : Configuration → ℕ → ℕ → List Port → List RowData
port_rows config p id [] = []
port_rows config p id (port ∷ rest) = port_row config p id port ∷ port_rows config p (id + 1) rest

-- the rows of partitions, of which the first has this number, and of their ports
unfoldable pub partition_rows : Configuration → ℕ → List PartitionData → List RowData
partition_rows config p [] = []
partition_rows config p (partition ∷ rest) =
    record { partition = p; id = 0; partners = [] } ∷ port_rows config p 1 partition.ports ++ partition_rows config (p + 1) rest

abbrev pub table_rows : Configuration → List RowData
table_rows config = partition_rows config 0 config.partitions
