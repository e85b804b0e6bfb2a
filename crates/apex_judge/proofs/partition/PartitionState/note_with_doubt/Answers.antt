use Rattle.apex_judge.proofs.partition.PartitionState.note_with_doubt.Goals as goal

pub returns : goal.returns
returns g c config picture p at was = c.mark.ensures config _ p (c.note.ensures config picture p at was)
