use Rattle.apex_groups.proofs.Common.{◌≡◌, ◌+◌, ℕ, Some, ⊎_elim, sym, ap, ◌∙◌, subst, arith, cases_eq, port_of, Port, in_group}
use Rattle.apex_groups.specs.Parts.{IsPortHeld}
use Rattle.apex_ports.proofs.Lookups.{is_identifier}
use Rattle.apex_groups.proofs.parts.Parts.is_held.Goals as goal

pub loop-index-preserved : goal.loop-index-preserved
loop-index-preserved c = λ id port few found.
    let config = c.args.config.now in
    let p = c.args.p in
    let inside : ℕ → _ = in_group c.args.members.now.of_partitions.items 1 in
    let own : ℕ → _ = in_group c.args.members.now.of_channels.items 1 in
    let last = c.loop-index.index + 1 in
    ⊎_elim
    (λ (now : id ≡ last).
    let both : Some c.in-Some.port.now ≡ Some port = c.in-Some.ensures.found ∙ (ap (port_of config p) (sym now) ∙ found) in
    let same : c.in-Some.port.now ≡ port = cc in
    subst (λ (at : ℕ × Port). IsPortHeld c.args.self.now c.args.part inside own p at.0 at.1) (λ i. (sym now i, same i)) (c.is_port_held.ensures c.if-not-is_port_held.false))
    (λ (before : id ≡ last → ⊥). c.loop-index.invariant id port (omega (arith, few, before)) found)
    (cases_eq id last)

pub returns : goal.returns
returns c holds = record {
  partition = c.is_partition_held.ensures c.if-not-is_partition_held.false;
  port = λ id port found.
      let past = c.loop-index-test.false in
      let count = c.ports-index-end.ensures.count in
      let known = (is_identifier c.args.config.now c.args.p id port found).last in
      c.loop-index.invariant id port (omega (arith, past, count, known)) found;
}
