use Rattle.table_stored.proofs.CodeLaws.{NumbersLeft}
use Rattle.table_stored.proofs.put_numbers.Given as goal

abbrev pub invariant-loop-x : goal.invariant-loop-x
invariant-loop-x l = NumbersLeft l.numbers l.initial.out l.out l.used l.x-index
