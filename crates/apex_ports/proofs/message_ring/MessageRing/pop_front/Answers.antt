use Rattle.apex_ports.proofs.MessageRings.{ring-popped}
use Rattle.apex_ports.proofs.message_ring.MessageRing.pop_front.Goals as goal

pub invariant_of-self : goal.invariant_of-self
invariant_of-self g c = rw c.pop_front.ensures.items (ring-popped _ _ _ _ _ c.self.invariant)
