use lib.ListN.{length}
use Prim.Native.Nat.{◌-◌}
use Rattle.reader.proofs.ReadLaws.{Reading}
use Rattle.reader.proofs.top.read_top.Given as goal

abbrev pub invariant-loop-n : goal.invariant-loop-n
invariant-loop-n l = Reading l.s l.initial.j l.j l.top l.initial.caps l.initial.notes l.caps l.notes

abbrev pub decreases-loop-n : goal.decreases-loop-n
decreases-loop-n l = length l.s - l.j
