use Rattle.dekarino_texts.proofs.Common.{◌≡◌, ◌++◌, ◌≤◌, Some, length, slice_get, grows, complete, waiting_remark}
use Rattle.apex_ports.specs.Channels.{waiting_on}
use Rattle.dekarino_texts.proofs.RemarkLemmas.{channel_cut, channel_end}
use Rattle.dekarino_texts.proofs.remarks.push_channels.Goals as goal

pub loop-c-preserved : goal.loop-c-preserved
loop-c-preserved c =
    let config = c.args.ports.now.config in
    let history = c.args.ports.now.history in
    let found : slice_get config.channels c.loop-c.c ≡ Some c.channel.result.now = rw (← c.config-in-loop-c.ensures.config) c.channel.ensures.found in
    let grown : c.push_waiting.new.remarks.items ≡ c.loop-c.remarks.items ++ waiting_remark c.channel.result.now.name (length (waiting_on config c.loop-c.c history)) =
    rw (← c.waiting_count.ensures.count) c.in_ok-push_waiting.ensures in
    grows c.loop-c.remarks.items c.push_waiting.new.remarks.items _ _ _ _ grown (channel_cut config history c.loop-c.c c.channel.result.now found) c.loop-c.invariant

pub returns : goal.returns
returns c =
    let config = c.args.ports.now.config in
    let past : length config.channels ≤ c.loop-c.c = rw (← c.config.ensures.config, ← c.channels-c-end.ensures.count) c.loop-c-test.false in
    complete c.loop-c.remarks.items _ _ (channel_end config c.args.ports.now.history c.loop-c.c past) c.loop-c.invariant
