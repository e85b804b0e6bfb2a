use Rattle.apex_judge.proofs.partition.PartitionState.believe.Goals as goal

pub returns : goal.returns
returns g c config picture p at about was =
    c.mark.ensures config _ p (c.see.ensures config _ p at about (c.note.ensures config picture p at was))
