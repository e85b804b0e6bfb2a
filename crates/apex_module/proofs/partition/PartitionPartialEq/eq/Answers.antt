use Rattle.std.proofs.Common.{◌≡◌, true, ap}
use Rattle.std.specs.Cmp.Lexicographic.{pointwise}
use Rattle.std.specs.Str.{bytes_eq}
use Rattle.apex_module.specs.Configuration.{PartitionData}
use Rattle.apex_module.specs.Equality.{equal_ports, equal_partitions}
use Rattle.apex_module.specs.EqualityLaws.{both_hold, first_fails}
use Rattle.apex_module.proofs.partition.PartitionPartialEq.eq.Goals as goal

pub returns-then-eq : goal.returns-then-eq
unfolding equal_partitions
returns-then-eq c =
    let name = ap (λ (p : PartitionData). p.name) c.self.view_is in
    let other_name = ap (λ (p : PartitionData). p.name) c.other.view_is in
    let ports = ap (λ (p : PartitionData). p.ports) c.self.view_is in
    let other_ports = ap (λ (p : PartitionData). p.ports) c.other.view_is in
    let names : bytes_eq c.args.self.now.name c.args.other.now.name ≡ true = cc in
    let rest : c.same_ports.result ≡ pointwise equal_ports c.args.self.now.ports c.args.other.now.ports = cc in
    both_hold _ _ c.same_ports.result names rest

pub returns-else-eq : goal.returns-else-eq
unfolding equal_partitions
returns-else-eq c =
    let name = ap (λ (p : PartitionData). p.name) c.self.view_is in
    let other_name = ap (λ (p : PartitionData). p.name) c.other.view_is in
    let names : c.eq.result ≡ bytes_eq c.args.self.now.name c.args.other.now.name = cc in
    first_fails _ (pointwise equal_ports c.args.self.now.ports c.args.other.now.ports) c.eq.result names c.if-eq.false
