use Rattle.std.proofs.Common.{ap}
use Rattle.apex_texts.specs.Arguments.{or_fault}
use Rattle.apex_texts.specs.declared.line_fault.LineFault.TheVariants as faults
use Rattle.apex_texts.proofs.AsciiLemmas.{message_missed}
use Rattle.apex_logs.proofs.timed_call.read_message.Goals as goal

pub returns-in_default : goal.returns-in_default
returns-in_default c = ap (or_fault faults.Message) (message_missed c.args.word.now c.in_default.ensures.cases.0)
