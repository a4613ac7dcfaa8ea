use lib.ListN.{length}
use Prim.Native.Nat.{◌-◌}
use mathlib.Core.Path.{◌≡◌}
use Rattle.json_strings.specs.Decode.{decoded_from}
use Rattle.json_names.specs.Same.{same}
use Rattle.json_names.proofs.alike.skip_alike.Given as goal

abbrev pub invariant-loop-i : goal.invariant-loop-i
invariant-loop-i l = same (decoded_from l.s l.i) (decoded_from l.t l.j) ≡ same (decoded_from l.s l.a) (decoded_from l.t l.b)

abbrev pub decreases-loop-i : goal.decreases-loop-i
decreases-loop-i l = length l.s - l.i
