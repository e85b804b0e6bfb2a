use Rattle.apex_ports.proofs.state.State.new.Goals as goal

pub returns-clause-kept : goal.returns-clause-kept
returns-clause-kept g c = record {
  all_partitions = c.in_ok-partitions.ensures.count;
  all_channels = c.in_ok-channels.ensures.count;
  each_partition = c.in_ok-partitions.ensures.kept;
  each_channel = c.in_ok-channels.ensures.kept;
}
