use Rattle.reader_layout.proofs.StageLaws.{Summing}
use Rattle.reader_layout.proofs.header_sum.Given as goal

abbrev pub invariant-loop-i : goal.invariant-loop-i
invariant-loop-i l = Summing l.caps l.n l.most l.h l.i
