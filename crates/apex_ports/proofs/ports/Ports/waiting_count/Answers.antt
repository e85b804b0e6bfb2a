use Rattle.apex_ports.proofs.Common.{◌≡◌, ◌<◌, false, length, sym, subst, ◌∙◌, waiting_on, is_queuing, PortsView, IsConserved}
use Rattle.apex_ports.proofs.Conserved.{always_conserved, sampling_waits_nothing}
use Rattle.apex_ports.proofs.Lookups.{channel_at, waiting_count_is}
use Rattle.apex_ports.proofs.ports.Ports.waiting_count.Goals as goal

pub returns-clause-count : goal.returns-clause-count
returns-clause-count g c =
    let within = subst (λ (v : PortsView). c.args.c < length v.config.channels) (sym c.self.view_is) c.requires in
    let state = channel_at _ _ _ _ c.self.invariant.kept c.args.c c.index.result.now within c.index.ensures in
    subst (λ (v : PortsView). c.waiting_count.result ≡ length (waiting_on v.config c.args.c v.history)) c.self.view_is (c.waiting_count.ensures ∙ waiting_count_is _ _ _ _ state)

pub returns-clause-sampling : goal.returns-clause-sampling
returns-clause-sampling g c sampling =
    let here = subst (λ (v : PortsView). is_queuing v.config c.args.c ≡ false) (sym c.self.view_is) sampling in
    let within = subst (λ (v : PortsView). c.args.c < length v.config.channels) (sym c.self.view_is) c.requires in
    let state = channel_at _ _ _ _ c.self.invariant.kept c.args.c c.index.result.now within c.index.ensures in
    let none = sampling_waits_nothing _ _ c.args.c c.self.invariant.sound here in
    let count = waiting_count_is _ _ _ _ state in
    c.waiting_count.ensures ∙ (count ∙ (λ i. length (none i)))

pub returns-clause-conserved : goal.returns-clause-conserved
returns-clause-conserved g c = subst (λ (v : PortsView). IsConserved v.config v.history c.args.c) c.self.view_is (always_conserved _ _ c.args.c c.self.invariant.sound)
