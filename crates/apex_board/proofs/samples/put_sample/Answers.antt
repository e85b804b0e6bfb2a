use Rattle.apex_board.proofs.SampleSteps.{nothing_written, sample_written}
use Rattle.apex_board.proofs.samples.put_sample.Goals as goal

pub returns-in-Some : goal.returns-in-Some
returns-in-Some g c =
    let ports = c.args.ports.now in
    rw c.copy-message.ensures (sample_written ports.config ports.history c.args.partition c.args.at c.args.call.now c.args.samples.now c.requires.samples c.in-Some.channel c.in-Some.message.now c.in-Some.ensures.writes)

pub returns-in_default : goal.returns-in_default
returns-in_default g c =
    let ports = c.args.ports.now in
    nothing_written ports.config ports.history c.args.partition c.args.at c.args.call.now c.args.samples.now c.requires.samples c.in_default.ensures.writes
