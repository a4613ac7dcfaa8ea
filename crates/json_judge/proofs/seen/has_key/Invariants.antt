use lib.ListN.{drop}
use mathlib.Core.Path.{◌≡◌}
use Rattle.json_judge.specs.Stack.{has_key}
use mathlib.Core.Bool.{◌||◌}
use Rattle.json_judge.proofs.seen.has_key.Given as goal

abbrev pub invariant-loop-k : goal.invariant-loop-k
invariant-loop-k l = (l.found || has_key l.key (drop l.k-index l.keys)) ≡ has_key l.key l.keys
