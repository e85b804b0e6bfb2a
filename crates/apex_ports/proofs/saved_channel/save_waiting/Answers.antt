use Rattle.apex_ports.proofs.Common.{◌≡◌, Some, sym, ap, ◌∙◌, slice_get, option_copied}
use Rattle.apex_ports.specs.Packed.{packed_message}
use Rattle.apex_ports.proofs.PackedItems.{one_written}
use Rattle.apex_ports.proofs.saved_channel.save_waiting.Goals as goal

pub loop-index-preserved : goal.loop-index-preserved
loop-index-preserved g c =
    let i = c.loop-index.index in
    let all = c.args.waiting.now.items in
    let message = c.unwrap.result.now in
    let at : slice_get all i ≡ Some message = sym c.get.ensures.message ∙ ap option_copied c.unwrap.ensures in
    one_written packed_message all i message c.put_count.new.bytes.items c.loop-index.bytes.items c.put_message.new.bytes.items at c.loop-index.invariant c.in_ok-put_message.ensures
