use Rattle.table_stored.proofs.CodeLaws.{NumbersRead}
use Rattle.table_stored.proofs.get_numbers.Given as goal

abbrev pub invariant-loop-i : goal.invariant-loop-i
invariant-loop-i l = NumbersRead l.bytes l.initial.out l.out l.i
