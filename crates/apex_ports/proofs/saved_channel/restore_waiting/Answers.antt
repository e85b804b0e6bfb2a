use Rattle.apex_ports.proofs.Common.{◌<◌, ◌+◌, List, ℕ, ◌∷◌, [], ◌++◌, length, drop, sym, ap, ◌∙◌, arith, length-take-le, Messages, messages}
use Rattle.std.specs.List.{flat_map}
use Rattle.apex_ports.specs.Packed.{packed_message}
use Rattle.apex_ports.proofs.PackedItems.{item_at, first_left, taken_more}
use Rattle.apex_ports.proofs.saved_channel.restore_waiting.Goals as goal

pub loop-preserved : goal.loop-preserved
loop-preserved g c = record {
  done = λ saved rest count few short wide e.
      let i = c.loop.counter in
      let so_far = c.loop.invariant.done saved rest count few short wide e in
      let waiting = so_far.0 in
      let within : i < length saved = omega (arith, count) in
      let message = item_at saved i within in
      let fits = short i message.0 message.1 in
      let got = c.message.ensures message.0 (flat_map packed_message (drop (i + 1) saved) ++ rest) (omega (arith, fits, wide)) (first_left packed_message saved i message.0 c.loop.reader rest message.1 so_far.1) in
      let size = ap (λ (x : Messages). x.size) waiting in
      let capacity = ap (λ (x : Messages). x.capacity) waiting in
      let so_many = ap (λ (x : Messages). length x.items) waiting in
      let first = length-take-le i saved (omega arith) in
      let long = ap (λ (x : List ℕ). length x) got.0 in
      let pushed = c.push_fitting.ensures (omega (arith, so_many, first, capacity, few, within)) (omega (arith, long, size, fits)) in (
        pushed
            ∙ ((λ j. messages ((waiting j).items ++ got.0 j ∷ []) (waiting j).capacity (waiting j).size)
            ∙ ap (λ (xs : List (List ℕ)). messages xs c.clear.new.self.capacity c.clear.new.self.size) (sym (taken_more saved i message.0 message.1))),
        got.1,
      );
}
