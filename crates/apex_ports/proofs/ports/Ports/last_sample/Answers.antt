use Rattle.apex_ports.proofs.Common.{◌≡◌, ◌<◌, true, length, Option, sym, subst, ◌∙◌, Sample, last_write_on, IsSampleBy, is_queuing, PortsView}
use Rattle.apex_ports.proofs.Conserved.{always_conserved}
use Rattle.apex_ports.proofs.Lookups.{channel_at, no_sample}
use Rattle.apex_ports.proofs.ports.Ports.last_sample.Goals as goal

pub returns-clause-sample : goal.returns-clause-sample
returns-clause-sample g c =
    let within = subst (λ (v : PortsView). c.args.c < length v.config.channels) (sym c.self.view_is) c.requires in
    let state = channel_at _ _ _ _ c.self.invariant.kept c.args.c c.index.result.now within c.index.ensures in
    subst (λ (v : PortsView). IsSampleBy (last_write_on v.config c.args.c v.history) c.sample.result) c.self.view_is
    (subst (λ (held : Option Sample). IsSampleBy held c.sample.result) state.sample c.sample.ensures.sample)

pub returns-clause-queuing : goal.returns-clause-queuing
returns-clause-queuing g c queuing =
    let here = subst (λ (v : PortsView). is_queuing v.config c.args.c ≡ true) (sym c.self.view_is) queuing in
    let within = subst (λ (v : PortsView). c.args.c < length v.config.channels) (sym c.self.view_is) c.requires in
    let state = channel_at _ _ _ _ c.self.invariant.kept c.args.c c.index.result.now within c.index.ensures in
    let none = (always_conserved _ _ c.args.c c.self.invariant.sound).queuing here in
    no_sample _ c.sample.result c.sample.ensures.sample (state.sample ∙ none)
