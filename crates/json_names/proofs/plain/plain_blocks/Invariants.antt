use lib.ListN.{length}
use Prim.Native.Nat.{◌-◌}
use Rattle.json_names.specs.Plain.{PlainRun}
use Rattle.json_names.proofs.plain.plain_blocks.Given as goal

abbrev pub invariant-loop-h : goal.invariant-loop-h
invariant-loop-h l = PlainRun l.s l.at (record { at = l.i; key = l.h })

abbrev pub decreases-loop-h : goal.decreases-loop-h
decreases-loop-h l = length l.s - l.i
