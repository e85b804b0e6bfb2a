use Rattle.std.proofs.Common.{arith}
use Rattle.apex_types.proofs.DigitTables.{pairs_first}
use Rattle.apex_types.proofs.digits.first_digit.Goals as goal

pub returns : goal.returns
returns c = pairs_first c.args.byte (omega arith)
