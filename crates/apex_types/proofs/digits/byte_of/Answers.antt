use Rattle.std.proofs.Common.{refl, arith}
use Rattle.apex_types.proofs.DigitTables.{values_at, values_small}
use Rattle.apex_types.proofs.digits.byte_of.Goals as goal

pub overflow_mul-result : goal.overflow_mul-result
overflow_mul-result c = omega (arith, values_small c.args.high (omega arith))

pub overflow_add-result : goal.overflow_add-result
overflow_add-result c = omega (arith, values_small c.args.high (omega arith), values_small c.args.low (omega arith))

pub returns : goal.returns
returns c = rw (values_at c.args.high (omega arith), values_at c.args.low (omega arith)) refl
