use Rattle.apex_ports.proofs.Common.{◌≡◌, ◌<◌, length, sym, arith, PortState}
use Rattle.apex_ports.specs.Packed.{port_byte, packed_port}
use Rattle.apex_ports.proofs.PackedItems.{IsAny, item_at, same_items, one_read, all_read}
use Rattle.apex_ports.proofs.saved_partition.restore_ports.Goals as goal

pub loop-port-preserved : goal.loop-port-preserved
loop-port-preserved c =
    let i = c.loop-port.port-index in
    let within : i < length c.loop-port.ports = omega arith in
    let item = item_at c.loop-port.ports i within in
    one_read packed_port IsAny (λ (saved now : PortState). now ≡ saved) c.args.ports.now c.args.reader.now i c.loop-port.ports c.loop-port.reader item.0 c.of_byte.result c.byte.new.self c.loop-port.invariant item.1
    (λ saved rest fits e.
    let got = c.byte.ensures (port_byte saved) rest e in
    (c.of_byte.ensures saved (sym got.0), got.1))

pub returns : goal.returns
returns c = λ saved rest fits e.
    let all = all_read packed_port IsAny (λ (saved now : PortState). now ≡ saved) c.args.ports.now c.args.reader.now c.loop-port.port-index c.loop-port.ports c.loop-port.reader (omega arith) c.loop-port.invariant saved rest
    (record { count = fits; each = λ k x y at listed. tt }) e in
    (same_items saved c.loop-port.ports all.0, all.1)
