use Rattle.std.proofs.Common.{◌≡◌, rules, ◌∙◌}
use Rattle.std.specs.Bool.{Decides}
use Rattle.apex_module.specs.declared.port.Port.{Port}
use Rattle.apex_module.specs.contracts.port.PortPartialEq.TheImpl as port_eq
use Rattle.apex_module.specs.Equality.{equal_ports}
use Rattle.apex_module.specs.EqualityLaws.{same_tests, equal_ports-Decides}
use Rattle.apex_module.proofs.partition.same_ports.Goals as goal

decides : (a b : Port) → Decides ((port_eq.eq-value).it a b) (a ≡ b)
decides a b = search rules

pub returns : goal.returns
returns c = c.eq.ensures ∙ same_tests (port_eq.eq-value).it equal_ports decides equal_ports-Decides c.args.ports.now c.args.others.now
