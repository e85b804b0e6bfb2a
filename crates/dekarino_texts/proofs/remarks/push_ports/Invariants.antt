use Rattle.dekarino_texts.proofs.Common.{◌≡◌, ◌+◌, ◌++◌, drop, ports_of, name_of_partition, port_remarks}
use Rattle.dekarino_texts.proofs.remarks.push_ports.Given as goal

abbrev pub invariant-loop-index : goal.invariant-loop-index
invariant-loop-index l =
    let config = l.fn.ports.config in
    l.remarks.items ++ port_remarks config l.fn.ports.history l.p (name_of_partition config l.p) (l.index + 1) (drop l.index (ports_of config l.p))
    ≡ l.fn.remarks.items ++ port_remarks config l.fn.ports.history l.p (name_of_partition config l.p) 1 (ports_of config l.p)
