use Rattle.std.proofs.Common.{◌≡◌, ◌++◌, ◌∷◌, [], ℕ, List, length, map, ap, ◌∙◌}
use Rattle.apex_ports.specs.declared.stored_messages.Part.{Part}
use Rattle.apex_ports.specs.Stored.{message_of}
use Rattle.apex_ports.proofs.Stored.{stored_more}
use Rattle.apex_ports.proofs.stored_messages.StoredMessages.push.Goals as goal

pub returns-clause-pushed : goal.returns-clause-pushed
returns-clause-pushed g c =
    let bytes = c.self.inside.bytes.items in
    let more = c.args.message.now in
    let parts = c.self.inside.parts.items in
    let part : Part = record { from = c.len-from.result; to = c.len-to.result } in
    let grown : c.extend_from_slice.new.self.items ≡ bytes ++ more = c.in_ok-extend_from_slice.ensures.items in
    let items : c.push_reserved.new.self.items ≡ parts ++ part ∷ [] =
    c.push_reserved.ensures.items ∙ ap (λ (front : List Part). front ++ part ∷ []) c.reserve.ensures.items in
    (λ i. map (message_of (grown i)) (items i))
    ∙ (stored_more bytes more parts part c.self.invariant
    (c.len-from.ensures ∙ c.self.inside.bytes.ok.0) (c.len-to.ensures ∙ (c.extend_from_slice.new.self.ok.0 ∙ ap length grown))
    ∙ ap (λ (front : List (List ℕ)). front ++ more ∷ []) c.self.view_is)
