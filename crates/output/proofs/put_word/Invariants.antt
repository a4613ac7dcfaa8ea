use Rattle.output.proofs.Writing.{Copied}
use Rattle.output.proofs.put_word.Given as goal

abbrev pub invariant-loop-i : goal.invariant-loop-i
invariant-loop-i l = Copied l.word l.initial.out l.out l.n l.i
