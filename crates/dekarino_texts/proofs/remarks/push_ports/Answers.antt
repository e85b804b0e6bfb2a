use Rattle.dekarino_texts.proofs.Common.{◌≡◌, ◌+◌, ◌≤◌, Some, length, sym, ap, ◌∙◌, slice_get, option_copied, port_of, ports_of, name_of_partition, grows, complete}
use Rattle.dekarino_texts.proofs.RemarkLemmas.{linked_channel, port_cut, port_end}
use Rattle.dekarino_texts.proofs.TableLemmas.{port_at_index}
use Rattle.dekarino_texts.proofs.remarks.push_ports.Goals as goal

pub push_port-requires-clause-channel : goal.push_port-requires-clause-channel
push_port-requires-clause-channel c =
    let config = c.args.ports.now.config in
    let found : port_of config c.args.p (c.loop-index.index + 1) ≡ Some c.unwrap-port.result.now =
    rw (← c.config-config.ensures.config) (sym c.port.ensures.found ∙ ap option_copied c.unwrap-port.ensures) in
    linked_channel config c.args.p (c.loop-index.index + 1) c.unwrap-port.result.now c.config-config.ensures.sound.valid found

pub loop-index-preserved : goal.loop-index-preserved
loop-index-preserved c =
    let config = c.args.ports.now.config in
    let ports = ports_of config c.args.p in
    let is : port_of config c.args.p (c.loop-index.index + 1) ≡ Some c.unwrap-port.result.now =
    rw (← c.config-config.ensures.config) (sym c.port.ensures.found ∙ ap option_copied c.unwrap-port.ensures) in
    let found : slice_get ports c.loop-index.index ≡ Some c.unwrap-port.result.now = port_at_index ports c.loop-index.index c.unwrap-port.result.now is in
    let cut = port_cut config c.args.ports.now.history c.args.p (name_of_partition config c.args.p) ports c.loop-index.index c.unwrap-port.result.now found in
    grows c.loop-index.remarks.items c.push_port.new.remarks.items _ _ _ _ c.in_ok-push_port.ensures cut c.loop-index.invariant

pub returns : goal.returns
returns c =
    let config = c.args.ports.now.config in
    let past : length (ports_of config c.args.p) ≤ c.loop-index.index = rw (← c.config-config.ensures.config, ← c.ports-index-end.ensures.count) c.loop-index-test.false in
    complete c.loop-index.remarks.items _ _ (port_end config c.args.ports.now.history c.args.p (name_of_partition config c.args.p) (ports_of config c.args.p) c.loop-index.index past) c.loop-index.invariant
