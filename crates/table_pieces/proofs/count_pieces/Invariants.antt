use Prim.Native.Nat.{◌-◌}
use Rattle.table_pieces.proofs.PiecesLaws.{Counting}
use Rattle.table_pieces.proofs.count_pieces.Given as goal

abbrev pub invariant-loop-i : goal.invariant-loop-i
invariant-loop-i l = Counting l.caps l.a l.b l.n l.i l.h l.c l.k

abbrev pub decreases-loop-i : goal.decreases-loop-i
decreases-loop-i l = l.b - l.i
