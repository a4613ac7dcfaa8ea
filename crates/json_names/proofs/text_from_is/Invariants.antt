use lib.ListN.{drop}
use mathlib.Core.Path.{◌≡◌}
use Rattle.json_strings.specs.Stream.{stream}
use Rattle.json_names.specs.Same.{same}
use Rattle.json_names.proofs.text_from_is.Given as goal

abbrev pub invariant-loop-w : goal.invariant-loop-w
invariant-loop-w l = same (stream l.s l.p) (drop l.w-index l.word) ≡ same (stream l.s l.initial.p) l.word
