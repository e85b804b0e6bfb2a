-- The line of an accepted configuration.
use Rattle.std.specs.Prelude.{ℕ, List, ◌++◌, length, codes, decimal, sum_by}
use Rattle.apex_texts.specs.Prelude.{Configuration}

-- the number of ports of all partitions
abbrev pub port_count : Configuration → ℕ
port_count config = sum_by (λ partition. length partition.ports) config.partitions

-- `ok partitions P ports Q channels C`
abbrev pub counts_line : ℕ → ℕ → ℕ → List ℕ
counts_line partitions ports channels =
    codes "ok partitions " ++ decimal partitions ++ codes " ports " ++ decimal ports ++ codes " channels " ++ decimal channels ++ codes "\n"

-- the line for a configuration
abbrev pub check_line : Configuration → List ℕ
check_line config = counts_line (length config.partitions) (port_count config) (length config.channels)
