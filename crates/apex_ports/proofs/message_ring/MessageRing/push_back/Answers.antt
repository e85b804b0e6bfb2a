use Rattle.apex_ports.proofs.Common.{◌≡◌, ◌-◌, ◌*◌, ◌∷◌, ◌++◌, ◌<◌, ◌≤◌, [], List, ℕ, length, drop, ap, ◌∙◌, sym, arith, rules, length-append, with_items_is, length-map, Messages, messages, message_at, messages_at, with_message}
use Rattle.std.specs.Vec.{with_items}
use Rattle.circular_buffer.specs.Buffer.{buffer}
use Rattle.apex_ports.proofs.MessageRings.{ring-pushed, messages-pushed, length-with_message, place_of, slot_behind, fits}
use Rattle.apex_ports.proofs.message_ring.MessageRing.push_back.Goals as goal

pub invariant_of-self : goal.invariant_of-self
invariant_of-self g c =
    let m = c.args.message.now in
    let self = c.self.inside in
    let places = self.places.items in
    let all = places ++ place_of self.next m ∷ [] in
    let start = self.next * self.size in
    let count = ap (λ (x : Messages). length x.items) c.self.view_is in
    let depth = ap (λ (x : Messages). x.capacity) c.self.view_is in
    let room : length places < self.places.capacity = omega (arith, count, depth, length-map places (message_at self.size self.slots.items), c.requires.room) in
    let short : length m ≤ self.size = search rules in
    let none : length all - self.places.capacity ≡ 0 = omega (arith, length-append places (place_of self.next m ∷ []), room) in
    let pushed : c.push_back.new.self ≡ buffer all self.places.capacity = c.push_back.ensures.items ∙ ap (λ (n : ℕ). buffer (drop n all) self.places.capacity) none in
    let written : c.put_message.new.slots ≡ with_message self.slots.items start m =
    c.put_message.ensures ∙ ap (λ (xs : List ℕ). with_message xs start m) c.as_mut_slice.ensures.value in
    let long = length-with_message self.slots.items start m (fits _ _ _ _ places m c.self.invariant room short) in
    let slots : (with_items self.slots c.put_message.new.slots).items ≡ with_message self.slots.items start m =
    with_items_is self.slots c.put_message.new.slots (ap length written ∙ (long ∙ sym self.slots.ok.0)) ∙ written in
    let next : c.next_slot-self-inside.result ≡ slot_behind self.next self.places.capacity =
    c.next_slot-self-inside.ensures ∙ ap (slot_behind self.next) (c.capacity.ensures.capacity ∙ ap (λ b. b.capacity) pushed) in
    rw (pushed, slots, next) (ring-pushed _ _ _ _ places m c.self.invariant room short)

pub returns : goal.returns
returns g c =
    let m = c.args.message.now in
    let self = c.self.inside in
    let places = self.places.items in
    let all = places ++ place_of self.next m ∷ [] in
    let start = self.next * self.size in
    let count = ap (λ (x : Messages). length x.items) c.self.view_is in
    let depth = ap (λ (x : Messages). x.capacity) c.self.view_is in
    let room : length places < self.places.capacity = omega (arith, count, depth, length-map places (message_at self.size self.slots.items), c.requires.room) in
    let short : length m ≤ self.size = search rules in
    let none : length all - self.places.capacity ≡ 0 = omega (arith, length-append places (place_of self.next m ∷ []), room) in
    let pushed : c.push_back.new.self ≡ buffer all self.places.capacity = c.push_back.ensures.items ∙ ap (λ (n : ℕ). buffer (drop n all) self.places.capacity) none in
    let written : c.put_message.new.slots ≡ with_message self.slots.items start m =
    c.put_message.ensures ∙ ap (λ (xs : List ℕ). with_message xs start m) c.as_mut_slice.ensures.value in
    let long = length-with_message self.slots.items start m (fits _ _ _ _ places m c.self.invariant room short) in
    let slots : (with_items self.slots c.put_message.new.slots).items ≡ with_message self.slots.items start m =
    with_items_is self.slots c.put_message.new.slots (ap length written ∙ (long ∙ sym self.slots.ok.0)) ∙ written in
    (λ i. messages (messages_at self.size (slots i) (pushed i).items) (pushed i).capacity self.size)
    ∙ (ap (λ (xs : List (List ℕ)). messages xs self.places.capacity self.size) (messages-pushed _ _ _ _ places m c.self.invariant room short)
    ∙ ap (λ (x : Messages). messages (x.items ++ m ∷ []) x.capacity x.size) c.self.view_is)
