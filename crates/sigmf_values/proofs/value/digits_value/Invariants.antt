use lib.ListN.{drop}
use Prim.Native.Nat.{◌<◌}
use mathlib.Core.Path.{◌≡◌}
use Rattle.sigmf_values.specs.ValueCode.{digits_from}
use Rattle.sigmf_values.proofs.value.digits_value.Given as goal

abbrev pub invariant-loop-b : goal.invariant-loop-b
invariant-loop-b l = (l.n < 18446744073709551616) × (digits_from l.n (drop l.b-index l.part) ≡ digits_from 0 l.part)
