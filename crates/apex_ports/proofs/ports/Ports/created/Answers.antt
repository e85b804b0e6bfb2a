use Rattle.apex_ports.proofs.Common.{◌≡◌, ◌<◌, length, sym, subst, ◌∙◌, PortsView, is_created}
use Rattle.apex_ports.proofs.Lookups.{partition_at}
use Rattle.apex_ports.proofs.ports.Ports.created.Goals as goal

pub returns : goal.returns
returns g c =
    let within = subst (λ (v : PortsView). c.args.p < length v.config.partitions) (sym c.self.view_is) c.requires in
    let state = partition_at _ _ _ _ c.self.invariant.kept c.args.p c.index.result.now within c.index.ensures in
    subst (λ (v : PortsView). c.is_created.result ≡ is_created c.args.p c.args.id v.history) c.self.view_is (c.is_created.ensures ∙ state.created c.args.id)
