use Rattle.dekarino_texts.proofs.Common.{◌≡◌, ◌++◌, drop, map, row_data, partition_rows, table_rows}
use Rattle.dekarino_texts.proofs.table.port_table.Given as goal

abbrev pub invariant-loop-partition : goal.invariant-loop-partition
invariant-loop-partition l = map row_data l.rows.items ++ partition_rows l.config l.partition (drop l.partition l.config.partitions) ≡ table_rows l.config
