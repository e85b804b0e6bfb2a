use Rattle.dekarino_texts.proofs.Common.{◌≡◌, ◌+◌, ◌++◌, drop, map, ports_of, row_data, port_rows}
use Rattle.dekarino_texts.proofs.table.push_ports.Given as goal

abbrev pub invariant-loop-index : goal.invariant-loop-index
invariant-loop-index l =
    map row_data l.rows.items ++ port_rows l.config l.p (l.index + 1) (drop l.index (ports_of l.config l.p)) ≡ map row_data l.fn.rows.items ++ port_rows l.config l.p 1 (ports_of l.config l.p)
