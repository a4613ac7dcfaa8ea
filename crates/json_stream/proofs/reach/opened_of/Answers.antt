use native.Mathlib.Omega.{arith}
use Rattle.json_stream.proofs.Laws.{opened_stop, opened_end, opened_on}
use Rattle.json_stream.proofs.reach.opened_of.Goals as goal

pub returns-then-o-lt2 : goal.returns-then-o-lt2
returns-then-o-lt2 c = (opened_stop c.loop.counter c.loop.o c.loop.sum _ c.if-o-lt2.true c.loop.invariant.0, omega (arith, c.loop.invariant))

pub loop-preserved : goal.loop-preserved
loop-preserved c = (opened_on c.loop.counter c.loop.o c.loop.sum _ c.extra_of.result c.loop-test.true c.if-o-lt2.false c.extra_of.ensures.0 c.loop.invariant.0, omega (arith, c.extra_of.ensures.1, c.loop.invariant), omega arith)

pub returns : goal.returns
returns c = (opened_end c.loop.counter c.loop.o c.loop.sum _ c.loop-test.false c.loop.invariant.0, omega (arith, c.loop.invariant))
