use lib.ListN.{length}
use Prim.Native.Nat.{◌+◌, ◌-◌}
use Rattle.json_judge.proofs.PassLaws.{ArrayPass, ObjectPass}
use Rattle.json_judge.proofs.values.+array_object_value.Given as goal

abbrev pub decreases-array : goal.decreases-array
decreases-array l = l.depth + (length l.s.now - l.at)

abbrev pub decreases-object : goal.decreases-object
decreases-object l = l.depth + (length l.s.now - l.at)

abbrev pub decreases-value : goal.decreases-value
decreases-value l = l.depth + (length l.s.now - l.at)

abbrev pub invariant-array-loop-d : goal.invariant-array-loop-d
invariant-array-loop-d l = ArrayPass (l.depth - 1) l.s l.at l.initial.i l.used l.initial.places l.initial.keys l.places l.keys l.bad l.i

abbrev pub decreases-array-loop-d : goal.decreases-array-loop-d
decreases-array-loop-d l = length l.s - l.i

abbrev pub invariant-object-loop-v : goal.invariant-object-loop-v
invariant-object-loop-v l = ObjectPass (l.depth - 1) l.s l.at l.initial.i l.used l.initial.places l.initial.keys l.places l.keys l.names.bad l.names.count l.i

abbrev pub decreases-object-loop-v : goal.decreases-object-loop-v
decreases-object-loop-v l = length l.s - l.i
