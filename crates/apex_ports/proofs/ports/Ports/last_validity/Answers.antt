use Rattle.apex_ports.proofs.Common.{◌≡◌, ◌<◌, ℕ, Option, Some, None, length, refl, sym, ap, subst, ◌∙◌, Invalid, Port, PortsView, Seen, seen, sampling_port, validity_shown}
use Rattle.apex_ports.proofs.Lookups.{partition_at}
use Rattle.apex_ports.proofs.ports.Ports.last_validity.Goals as goal

-- no port shows more than was seen last
shown_invalid : (here : Seen) (id : ℕ) (o : Option Port) → here.last id ≡ Invalid → Invalid ≡ validity_shown here id o
shown_invalid here id None is = refl
shown_invalid here id (Some port) is = sym is

pub returns-in-Invalid : goal.returns-in-Invalid
returns-in-Invalid g c =
    let within = subst (λ (v : PortsView). c.args.p < length v.config.partitions) (sym c.self.view_is) c.requires in
    let state = partition_at _ _ _ _ c.self.invariant.kept c.args.p c.index.result.now within c.index.ensures in
    let last = sym (state.last c.args.id) ∙ (sym c.last_validity-last.ensures ∙ c.in-Invalid.is) in
    let here = seen c.self.inside.config c.self.inside.state.history c.args.p in
    let is = shown_invalid here c.args.id (sampling_port c.self.inside.config here c.args.p c.args.id) last in
    subst (λ (v : PortsView). Invalid ≡ validity_shown (seen v.config v.history c.args.p) c.args.id (sampling_port v.config (seen v.config v.history c.args.p) c.args.p c.args.id)) c.self.view_is is

pub returns-in-Some : goal.returns-in-Some
returns-in-Some g c =
    let within = subst (λ (v : PortsView). c.args.p < length v.config.partitions) (sym c.self.view_is) c.requires in
    let state = partition_at _ _ _ _ c.self.invariant.kept c.args.p c.index.result.now within c.index.ensures in
    let last = c.last_validity-last.ensures ∙ (state.last c.args.id ∙ ap (λ (o : Option Port). validity_shown (seen c.self.inside.config c.self.inside.state.history c.args.p) c.args.id o) c.in-Some.ensures.port) in
    subst (λ (v : PortsView). c.last_validity-last.result ≡ validity_shown (seen v.config v.history c.args.p) c.args.id (sampling_port v.config (seen v.config v.history c.args.p) c.args.p c.args.id)) c.self.view_is last
