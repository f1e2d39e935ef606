use Rattle.std.proofs.Common.{arith}
use Rattle.decimals.specs.Writing.{length_number, length_five_off}
use Rattle.decimals.proofs.field_length.Goals as goal

pub overflow_add-bytes : goal.overflow_add-bytes
overflow_add-bytes c = omega (arith, length_number c.args.n (omega arith))

pub loop-rest-preserved : goal.loop-rest-preserved
loop-rest-preserved c = omega (arith, length_five_off c.loop-rest.rest (omega arith))

pub overflow_add-result : goal.overflow_add-result
overflow_add-result c = omega (arith, length_number c.args.n (omega arith))

pub returns : goal.returns
returns c = (omega arith, omega (arith, length_number c.args.n (omega arith)))
