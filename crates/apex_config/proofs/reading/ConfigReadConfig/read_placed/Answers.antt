use Rattle.apex_config.proofs.Answering.{answer_placed}
use Rattle.apex_config.proofs.reading.ConfigReadConfig.read_placed.Goals as goal

pub returns-in-Ok-clause-placed : goal.returns-in-Ok-clause-placed
returns-in-Ok-clause-placed c = answer_placed c.args.bytes.now c.in-Ok.answer c.in-Ok.ensures
