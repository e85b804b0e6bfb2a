use Rattle.apex_ports.proofs.Common.{◌≡◌, sym, ap, ◌∙◌, subst, Configuration, PortsView, IsSavedKept}
use Rattle.std.proofs.Common.{◌↔◌, IsTrue}
use Rattle.apex_ports.specs.SameSaved.{IsSameSaved}
use Rattle.apex_ports.proofs.SameBytes.{same_bytes, compared}
use Rattle.apex_ports.proofs.ports.saved.SavedPorts.is_same.Goals as goal

abbrev config_of : PortsView → Configuration
config_of ports = ports.config

pub returns : goal.returns
returns g c =
    let mine = c.self.inside in
    let its = c.other.inside in
    let both : its.config.value ≡ mine.config.value = ap config_of c.other.view_is ∙ (sym c.requires ∙ sym (ap config_of c.self.view_is)) in
    let kept = subst (λ (config : Configuration). IsSavedKept config its.history its.bytes) both c.other.invariant in
    let same = same_bytes mine.config.value mine.history its.history mine.bytes its.bytes c.self.invariant kept in
    let result = compared c.eq.result c.as_slice.result.now c.as_slice-2.result.now mine.bytes.items its.bytes.items (IsSameSaved mine.config.value mine.history its.history) c.eq.ensures c.as_slice.ensures.value c.as_slice-2.ensures.value same in
    subst (λ (v : PortsView × PortsView). IsTrue c.eq.result ↔ IsSameSaved v.0.config v.0.history v.1.history) (λ i. (c.self.view_is i, c.other.view_is i)) result
