use Rattle.apex_ports.proofs.Common.{◌≡◌, ℕ, ◌<◌, ◌^◌, length, arith}
use Rattle.apex_ports.specs.Packed.{packed_number}
use Rattle.apex_ports.proofs.PackedItems.{item_at, same_items, one_read, all_read}
use Rattle.apex_ports.proofs.ports.saved.restore_calls.Goals as goal

pub loop-count-preserved : goal.loop-count-preserved
loop-count-preserved c =
    let i = c.loop-count.count-index in
    let within : i < length c.loop-count.calls = omega arith in
    let item = item_at c.loop-count.calls i within in
    one_read packed_number (λ (_ : ℕ) (n : ℕ). n < 2 ^ 64) (λ (saved now : ℕ). now ≡ saved) c.args.calls.now c.args.reader.now i c.loop-count.calls c.loop-count.reader item.0 c.number.result c.number.new.self
    c.loop-count.invariant item.1 c.number.ensures

pub returns : goal.returns
returns c = λ saved rest fits e.
    let all = all_read packed_number (λ (_ : ℕ) (n : ℕ). n < 2 ^ 64) (λ (saved now : ℕ). now ≡ saved) c.args.calls.now c.args.reader.now c.loop-count.count-index c.loop-count.calls c.loop-count.reader (omega arith)
    c.loop-count.invariant saved rest fits e in
    (same_items saved c.loop-count.calls all.0, all.1)
