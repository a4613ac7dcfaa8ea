use lib.ListN.{length}
use Prim.Native.Nat.{◌-◌}
use Rattle.sigmf_objects.proofs.WalkLaws.{Walking}
use Rattle.sigmf_names.specs.Names.{core_of}
use Rattle.sigmf_objects.proofs.walk.find_fields.Given as goal

abbrev pub invariant-loop-m : goal.invariant-loop-m
invariant-loop-m l = Walking l.s (core_of l.kind) l.initial.j l.j l.low l.places l.sizes

abbrev pub decreases-loop-m : goal.decreases-loop-m
decreases-loop-m l = length l.s - l.j
