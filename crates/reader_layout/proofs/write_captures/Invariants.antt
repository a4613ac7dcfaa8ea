use Rattle.reader_layout.proofs.WriteLaws.{Rowing}
use Rattle.reader_layout.proofs.write_captures.Given as goal

abbrev pub invariant-loop-i : goal.invariant-loop-i
invariant-loop-i l = Rowing l.caps l.n l.o l.t.width l.e l.initial.out l.out l.h l.i
