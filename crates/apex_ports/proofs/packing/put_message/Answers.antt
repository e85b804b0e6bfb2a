use Rattle.apex_ports.proofs.Common.{◌≡◌, ◌++◌, List, ℕ, ap, ◌∙◌, subst, append_assoc}
use Rattle.std.proofs.Common.{OnOk}
use Rattle.apex_ports.specs.Packed.{packed_length}
use Rattle.apex_ports.proofs.PackedItems.{ok_appended}
use Rattle.apex_ports.proofs.packing.put_message.Goals as goal

pub returns : goal.returns
unfolding packed_length
returns g c =
    let old = c.args.bytes.now.items in
    let m = c.args.message.now in
    let length_bytes = c.in_ok-extend_from_slice.ensures.items ∙ ap (λ (l : List ℕ). old ++ l) c.to_le_bytes.ensures in
    let both = ok_appended c.extend_from_slice-2.result c.extend_from_slice.new.self.items (old ++ c.to_le_bytes.result) m c.extend_from_slice-2.new.self.items c.in_ok-extend_from_slice.ensures.items c.extend_from_slice-2.ensures.items in
    subst (λ (l : List ℕ). OnOk c.extend_from_slice-2.result (c.extend_from_slice-2.new.self.items ≡ l))
    (append_assoc old c.to_le_bytes.result m ∙ ap (λ (l : List ℕ). old ++ (l ++ m)) c.to_le_bytes.ensures) both
