use Rattle.decimal.proofs.PutLaws.{Back}
use Rattle.decimal.proofs.put_digits.Given as goal

abbrev pub invariant-loop-m : goal.invariant-loop-m
invariant-loop-m l = Back l.n l.initial.out l.out l.m l.i

abbrev pub decreases-loop-m : goal.decreases-loop-m
decreases-loop-m l = l.m
