use Rattle.apex_texts.proofs.Common.{◌≡◌, Some, string_bytes, partition_name_of}
use Rattle.apex_texts.proofs.ReportLemmas.{grows, complete, partition_cut, partition_end}
use Rattle.apex_texts.proofs.report_text.push_partitions.Goals as goal

pub loop-p-preserved : goal.loop-p-preserved
loop-p-preserved c =
    let named : partition_name_of c.args.ports.now.config c.loop-p.p ≡ Some c.text-name.result.now = rw (← c.config-in-loop-p.ensures.config, c.text-name.ensures) c.partition_name.ensures.name in
    grows (string_bytes c.loop-p.text) (string_bytes c.push_partition.new.text) _ _ _ _ c.in_ok-push_partition.ensures (partition_cut c.args.ports.now.history c.args.ports.now.config c.loop-p.p c.text-name.result.now named) c.loop-p.invariant

pub returns : goal.returns
returns c = complete (string_bytes c.loop-p.text) _ _ (partition_end c.args.ports.now.history c.args.ports.now.config.partitions c.loop-p.p (rw c.config.ensures.config at (rw c.partitions-p-end.ensures.count at c.loop-p-test.false))) c.loop-p.invariant
