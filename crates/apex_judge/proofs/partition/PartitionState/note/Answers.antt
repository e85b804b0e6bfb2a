use Rattle.apex_judge.proofs.Common.{ap, is_create}
use Rattle.apex_judge.proofs.PartitionSteps.{partition_stays, others_leave}
use Rattle.apex_judge.proofs.partition.PartitionState.note.Goals as goal

pub returns-in-CreateSampling : goal.returns-in-CreateSampling
returns-in-CreateSampling g c config picture p at was = c.note_creation.ensures c.args.call.now (ap is_create c.in-CreateSampling.is) config picture p at was

pub returns-in-CreateQueuing : goal.returns-in-CreateQueuing
returns-in-CreateQueuing g c config picture p at was = c.note_creation-in-CreateQueuing.ensures c.args.call.now (ap is_create c.in-CreateQueuing.is) config picture p at was

pub returns-in-ReadSampling : goal.returns-in-ReadSampling
returns-in-ReadSampling g c config picture p at was = rw c.in-ReadSampling.is (c.note_read.ensures config picture p at was)

pub returns-in-SetMode : goal.returns-in-SetMode
returns-in-SetMode g c config picture p at was = rw c.in-SetMode.is (c.note_mode.ensures config picture p at was)

pub returns-in_default : goal.returns-in_default
returns-in_default g c config picture p at was =
    partition_stays config picture _ p _ was (others_leave p at c.args.call.now _ c.in_default.not-CreateSampling c.in_default.not-CreateQueuing c.in_default.not-ReadSampling c.in_default.not-SetMode)
