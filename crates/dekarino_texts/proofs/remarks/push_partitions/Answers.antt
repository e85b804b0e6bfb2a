use Rattle.dekarino_texts.proofs.Common.{◌<◌, ◌≤◌, length, grows, complete}
use Rattle.dekarino_texts.proofs.RemarkLemmas.{partition_cut, partition_end}
use Rattle.dekarino_texts.proofs.remarks.push_partitions.Goals as goal

pub loop-p-preserved : goal.loop-p-preserved
loop-p-preserved c =
    let config = c.args.ports.now.config in
    let inside : c.loop-p.p < length config.partitions = rw (← c.config.ensures.config, ← c.partitions-p-end.ensures.count) c.loop-p-test.true in
    grows c.loop-p.remarks.items c.push_ports.new.remarks.items _ _ _ _ c.in_ok-push_ports.ensures (partition_cut config c.args.ports.now.history c.loop-p.p inside) c.loop-p.invariant

pub returns : goal.returns
returns c =
    let config = c.args.ports.now.config in
    let past : length config.partitions ≤ c.loop-p.p = rw (← c.config.ensures.config, ← c.partitions-p-end.ensures.count) c.loop-p-test.false in
    complete c.loop-p.remarks.items _ _ (partition_end config c.args.ports.now.history c.loop-p.p past) c.loop-p.invariant
