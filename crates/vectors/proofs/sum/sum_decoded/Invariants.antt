use Rattle.std.proofs.Common.{length}
use Rattle.json_strings.specs.Stream.{stream}
use Rattle.vectors.proofs.sum.sum_decoded.Given as goal

abbrev pub decreases-loop-b : goal.decreases-loop-b
decreases-loop-b l = length (stream l.s l.p)
