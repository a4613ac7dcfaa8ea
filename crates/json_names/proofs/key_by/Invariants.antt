use lib.ListN.{length}
use Prim.Native.Nat.{◌<◌}
use mathlib.Core.Path.{◌≡◌}
use Rattle.json_strings.specs.Decode.{decoded_from}
use Rattle.json_names.specs.Keys.{key_by}
use Rattle.json_strings.specs.Decode.{decoded_from}
use Rattle.json_strings.specs.Stream.{stream}
use Rattle.json_names.specs.Keys.{key_from}
use Rattle.json_names.proofs.key_by.Given as goal

abbrev pub invariant-loop-b : goal.invariant-loop-b
invariant-loop-b l = (l.h < 4294967296) × (key_from l.m l.h (stream l.s l.p) ≡ key_by l.m (decoded_from l.s l.at))

abbrev pub decreases-loop-b : goal.decreases-loop-b
decreases-loop-b l = length (stream l.s l.p)
