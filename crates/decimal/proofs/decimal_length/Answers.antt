use native.Mathlib.Omega.{arith}
use Rattle.decimal.proofs.PutLaws.{count_on, count_most}
use Rattle.decimal.proofs.Digits.{digits_most}
use Rattle.decimal.proofs.decimal_length.Goals as goal

pub overflow_add-c : goal.overflow_add-c
overflow_add-c c = omega (arith, count_most _ _ _ c.loop-m.invariant (omega arith))

pub loop-m-preserved : goal.loop-m-preserved
loop-m-preserved c = search count_on

pub overflow_add-result : goal.overflow_add-result
overflow_add-result c = omega (arith, digits_most c.args.n)

pub returns : goal.returns
returns c = (omega arith, omega (arith, digits_most c.args.n))
