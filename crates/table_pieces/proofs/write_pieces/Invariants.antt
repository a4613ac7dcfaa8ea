use Prim.Native.Nat.{◌-◌}
use Rattle.table_pieces.proofs.PiecesLaws.{Writing}
use Rattle.table_pieces.proofs.write_pieces.Given as goal

abbrev pub invariant-loop-i : goal.invariant-loop-i
invariant-loop-i l = Writing l.caps l.initial.out l.a l.b l.n l.o l.w l.out l.i l.h l.c l.k

abbrev pub decreases-loop-i : goal.decreases-loop-i
decreases-loop-i l = l.b - l.i
