use lib.ListN.{length}
use Prim.Native.Nat.{◌-◌}
use Rattle.reader.proofs.ArrayLaws.{Walking}
use Rattle.reader.proofs.arrays.read_array.Given as goal

abbrev pub invariant-loop-out : goal.invariant-loop-out
invariant-loop-out g l = Walking g.E.Entry.kind l.s l.at l.p l.count l.low l.initial.out l.out

abbrev pub decreases-loop-out : goal.decreases-loop-out
decreases-loop-out g l = length l.s - l.p
