use Rattle.apex_ports.proofs.Common.{◌≡◌, ◌<◌, ◌≤◌, length, sym, subst, ◌∙◌, accepted_on, cleared_on, count_of, PortsView}
use Rattle.apex_ports.proofs.Conserved.{cleared_within}
use Rattle.apex_ports.proofs.Lookups.{channel_at}
use Rattle.apex_ports.proofs.ports.Ports.cleared_count.Goals as goal

pub returns-clause-count : goal.returns-clause-count
returns-clause-count g c =
    let within = subst (λ (v : PortsView). c.args.c < length v.config.channels) (sym c.self.view_is) c.requires in
    let state = channel_at _ _ _ _ c.self.invariant.kept c.args.c c.index.result.now within c.index.ensures in
    subst (λ (v : PortsView). c.cleared.result ≡ count_of (cleared_on v.config c.args.c v.history)) c.self.view_is (c.cleared.ensures ∙ state.cleared)

pub returns-clause-accepted : goal.returns-clause-accepted
returns-clause-accepted g c =
    subst (λ (v : PortsView). length (cleared_on v.config c.args.c v.history) ≤ length (accepted_on v.config c.args.c v.history)) c.self.view_is (cleared_within _ _ c.args.c c.self.invariant.sound)
