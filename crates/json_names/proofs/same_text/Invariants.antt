use lib.ListN.{length}
use mathlib.Core.Path.{◌≡◌}
use Rattle.json_strings.specs.Decode.{decoded_from}
use Rattle.json_names.specs.Same.{same}
use Rattle.json_strings.specs.Decode.{decoded_from}
use Rattle.json_strings.specs.Stream.{stream}
use Rattle.json_names.proofs.same_text.Given as goal

abbrev pub invariant-loop-x : goal.invariant-loop-x
invariant-loop-x l = same (stream l.s l.p) (stream l.t l.q) ≡ same (decoded_from l.s l.a) (decoded_from l.t l.b)

abbrev pub decreases-loop-x : goal.decreases-loop-x
decreases-loop-x l = length (stream l.s l.p)
