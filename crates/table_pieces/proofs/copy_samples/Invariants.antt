use Prim.Native.Nat.{◌-◌}
use Rattle.table_pieces.proofs.CopyCode.{Copying}
use Rattle.table_pieces.proofs.copy_samples.Given as goal

abbrev pub invariant-loop-i : goal.invariant-loop-i
invariant-loop-i l = Copying l.caps l.bytes l.initial.out l.a l.b l.n l.o l.w l.out l.i l.h l.p l.k

abbrev pub decreases-loop-i : goal.decreases-loop-i
decreases-loop-i l = l.b - l.i
