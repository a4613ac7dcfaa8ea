use Rattle.first_line.proofs.Laws.{Reading}
use Rattle.first_line.proofs.first_line.Given as goal

abbrev pub invariant-loop-i : goal.invariant-loop-i
invariant-loop-i l = Reading l.input l.n l.i
