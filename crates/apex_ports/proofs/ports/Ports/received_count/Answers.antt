use Rattle.apex_ports.proofs.Common.{◌≡◌, ◌<◌, length, sym, subst, ◌∙◌, received_on, count_of, PortsView}
use Rattle.apex_ports.proofs.Lookups.{channel_at}
use Rattle.apex_ports.proofs.ports.Ports.received_count.Goals as goal

pub returns : goal.returns
returns g c =
    let within = subst (λ (v : PortsView). c.args.c < length v.config.channels) (sym c.self.view_is) c.requires in
    let state = channel_at _ _ _ _ c.self.invariant.kept c.args.c c.index.result.now within c.index.ensures in
    subst (λ (v : PortsView). c.received.result ≡ count_of (received_on v.config c.args.c v.history)) c.self.view_is (c.received.ensures ∙ state.received)
