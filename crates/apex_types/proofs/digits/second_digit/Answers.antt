use Rattle.std.proofs.Common.{arith}
use Rattle.apex_types.proofs.DigitTables.{pairs_second}
use Rattle.apex_types.proofs.digits.second_digit.Goals as goal

pub returns : goal.returns
returns c = pairs_second c.args.byte (omega arith)
