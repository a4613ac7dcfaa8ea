use Rattle.table.proofs.TableLaws.{Summing}
use Rattle.table.proofs.rows.header_sum.Given as goal

abbrev pub invariant-loop-i : goal.invariant-loop-i
invariant-loop-i g l = Summing (g.N.Numbers.numbers l.caps) l.n l.o l.e l.w l.cap l.s l.h l.i
