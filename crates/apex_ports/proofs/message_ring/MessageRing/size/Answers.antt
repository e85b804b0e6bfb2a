use Rattle.apex_ports.proofs.Common.{subst, Messages, AreShort}
use Rattle.apex_ports.proofs.MessageRings.{ring-short}
use Rattle.apex_ports.proofs.message_ring.MessageRing.size.Goals as goal

pub returns-clause-short : goal.returns-clause-short
returns-clause-short g c = subst (λ (x : Messages). AreShort x.size x.items) c.self.view_is (ring-short _ _ _ _ _ c.self.invariant)
