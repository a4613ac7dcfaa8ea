use Prim.Native.Nat.{◌-◌}
use Rattle.sigmf_names.proofs.DecodedLaws.{OrdinaryTo}
use Rattle.sigmf_names.proofs.decoded.is_verbatim.Given as goal

abbrev pub invariant-loop-i : goal.invariant-loop-i
invariant-loop-i l = OrdinaryTo l.raw l.i

abbrev pub decreases-loop-i : goal.decreases-loop-i
decreases-loop-i l = l.last - l.i
