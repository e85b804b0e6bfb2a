use Rattle.apex_ports.proofs.Common.{◌≡◌, ◌<◌, false, List, ℕ, None, length, sym, ap, subst, ◌∙◌, slice_get, option_copied, waiting_in, waiting_on, is_queuing, PortsView}
use Rattle.apex_ports.proofs.Conserved.{sampling_waits_nothing}
use Rattle.apex_ports.proofs.Lookups.{channel_at, nothing_lent}
use Rattle.apex_ports.proofs.ports.Ports.waiting.Goals as goal

pub returns-clause-message : goal.returns-clause-message
returns-clause-message g c =
    let within = subst (λ (v : PortsView). c.args.c < length v.config.channels) (sym c.self.view_is) c.requires in
    let state = channel_at _ _ _ _ c.self.invariant.kept c.args.c c.index.result.now within c.index.ensures in
    subst (λ (v : PortsView). option_copied c.waiting.result ≡ slice_get (waiting_on v.config c.args.c v.history) c.args.i) c.self.view_is (c.waiting.ensures.message ∙ ap (λ (xs : List (List ℕ)). slice_get xs c.args.i) state.waiting)

pub returns-clause-sampling : goal.returns-clause-sampling
returns-clause-sampling g c sampling =
    let here = subst (λ (v : PortsView). is_queuing v.config c.args.c ≡ false) (sym c.self.view_is) sampling in
    let within = subst (λ (v : PortsView). c.args.c < length v.config.channels) (sym c.self.view_is) c.requires in
    let state = channel_at _ _ _ _ c.self.invariant.kept c.args.c c.index.result.now within c.index.ensures in
    let none = sampling_waits_nothing _ _ c.args.c c.self.invariant.sound here in
    let waits : slice_get (waiting_in c.index.result.now) c.args.i ≡ None = ap (λ (xs : List (List ℕ)). slice_get xs c.args.i) (state.waiting ∙ none) in
    nothing_lent c.waiting.result (c.waiting.ensures.message ∙ waits)
