use Rattle.apex_judge.proofs.state.State.new.Goals as goal

pub returns-clause-shown : goal.returns-clause-shown
returns-clause-shown g c = record {
  all_partitions = c.in_ok-partitions.ensures.count;
  all_channels = c.in_ok-channels.ensures.count;
  each_partition = c.in_ok-partitions.ensures.shown;
  each_channel = c.in_ok-channels.ensures.shown;
}
