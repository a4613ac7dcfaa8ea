use lib.ListN.{drop}
use mathlib.Core.Path.{◌≡◌}
use mathlib.Core.Bool.{◌&&◌}
use Rattle.json_names.specs.Same.{same}
use Rattle.sigmf_names.proofs.lookup.are_equal.Given as goal

abbrev pub invariant-loop-i : goal.invariant-loop-i
invariant-loop-i l = (l.ok && same (drop l.i l.a) (drop l.i l.b)) ≡ same l.a l.b
