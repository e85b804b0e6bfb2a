use Rattle.apex_ports.proofs.Common.{length, ap, arith, length-map, Messages, message_at}
use Rattle.apex_ports.proofs.message_ring.MessageRing.push_fitting.Goals as goal

pub push_back-requires-clause-room : goal.push_back-requires-clause-room
push_back-requires-clause-room g c =
    let self = c.self.inside in
    let count = ap (λ (x : Messages). length x.items) c.self.view_is in
    let depth = ap (λ (x : Messages). x.capacity) c.self.view_is in
    omega (arith, count, depth, length-map self.places.items (message_at self.size self.slots.items))
