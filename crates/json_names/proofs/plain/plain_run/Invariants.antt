use lib.ListN.{length}
use Prim.Native.Nat.{◌-◌}
use Rattle.json_names.specs.Plain.{PlainRun}
use Rattle.json_names.proofs.plain.plain_run.Given as goal

abbrev pub invariant-loop-i : goal.invariant-loop-i
invariant-loop-i l = PlainRun l.s l.at (record { at = l.i; key = l.h })

abbrev pub decreases-loop-i : goal.decreases-loop-i
decreases-loop-i l = length l.s - l.i
