use lib.ListN.{length}
use mathlib.Core.Path.{◌≡◌}
use Rattle.sigmf_datetimes.specs.Datetimes.{zoned}
use Rattle.json_strings.specs.Stream.{stream}
use Rattle.sigmf_datetimes.proofs.datetimes.is_zoned.Given as goal

abbrev pub invariant-loop-b : goal.invariant-loop-b
invariant-loop-b l = zoned (stream l.s l.p) ≡ zoned (stream l.s l.initial.p)

abbrev pub decreases-loop-b : goal.decreases-loop-b
decreases-loop-b l = length (stream l.s l.p)
